-- That the promises are not empty: calls small enough for the checker to work them, each with what it gives. One is accepted and moves
-- water, one is refused with each number from 1 to 8, and one is lent a lake at rest with a shore, and keeps it. Sums are made of seventeen
-- cells, and are refused with each number that there is for them; questions read blocks and cells, and are refused with 1 and with 10.
-- Assumes nothing.
use Rattle.std.specs.Prelude.{◌≡◌, refl, List, [], ◌∷◌, ◌⊎◌, ℕ, zero, suc, ◌<◌, length, ℤ, pos, neg_ℤ, ◌+ℤ◌, ◌-ℤ◌, ◌≤ℤ◌, Ok}
use Rattle.std.proofs.Common.{sym, ap, inl, inr, arith}
use Rattle.whole.specs.Difference.{lit, le! }
use Rattle.whole.specs.Choice.{min_z, max_z, size_z}
use Rattle.whole.specs.Largest.{bits, largest}
use Rattle.tables.specs.Some.{some, lowest}
use Rattle.tables.specs.Rows.{row}
use Rattle.tables.specs.Columns.{columns}
use Rattle.tables.specs.Cells.{table_of}
use Rattle.rules.specs.Face.{speed, wave_of, wave, u_star, a_star, left_wave, right_wave, mass, mixture, mixed, top, nothing, alone, between}
use Rattle.rules.specs.Face.{sided, wet, face}
use Rattle.rules.specs.Ends.{End, outer, inflow_speed, inflow, left_end, right_end}
use Rattle.rules.specs.Shown.{cross_right, cross_at, volume}
use Rattle.rules.specs.Reach.{z0, z1, h0, h1, hl, hr, side_l, side_r}
use Rattle.rules.specs.Stage.{share, carried, gauss, push, tilt, update, stage}
use Rattle.rules.specs.Finishing.{parted, marked, shallow_left, shallow_right, spared, minmod, with_right, with_left, limited, is_limited}
use Rattle.rules.specs.Finishing.{limit, beyond, clipped, cut, dried, finish}
use Rattle.rules.specs.Friction.{cube_of, cube, drag, slowed}
use Rattle.rules.specs.Step.{rub, rubbed_cell, rubbed, stage_one, half, carry, joined_cell, joined, next}
use Rattle.rules.specs.Refusals.{any, bad_end, bad_call, bad_bed, bad_rough, off_cell, off, fast_cell, fast_friction, fast_inflow, fast_face}
use Rattle.rules.specs.Refusals.{fast_points, fast_gauss, too_long, verdict, spot, stage_checks, early, checks, refusal, refused_at}
use Rattle.rules.specs.Lent.{misfit, number, place, filled, crossed, Outcome, refused, accepted, step_of}
use Rattle.rules.specs.StateAndBed.{misfit_state, state_checks}
use Rattle.rules.specs.Sums.{block_to, sum_from, block_sum, sums_of, making_checks, making_refusal, Making, unmade, made, making_of, count}
use Rattle.rules.specs.Sums.{whole_block, lone_cell, reading, question_checks, question_refusal, unanswered, between_of}
use Rattle.rules.specs.Sums.{keeping_of, sums_after}
use Rattle.rules.specs.Numbers.{one_cell}
use Rattle.step.specs.Gives.{end, lend, volumes, code, answer, number_in, leaves}
use Rattle.sums.specs.Gives.{made_answer, made_number, made_leaves}
use Rattle.promises.specs.Seen.{at, level, level_slope, discharge, discharge_slope, mean_bed, bed_slope}
use Rattle.promises.specs.Seen.{Lake, Besides, lending, Calls, none, more}
use Rattle.promises.specs.SeenSums.{MadeFrom, by_making, CallsKeeping, none_kept, more_kept}
use Rattle.promises.specs.ByChecks.{accepted_with}
use Rattle.promises.specs.Cases.{uneven, moved, two_cells, rising, shore, lake, brimming, flat, seventeen, two_sums, tells}

-- what each gives
pub each_gives :
    step_of (two_cells uneven (pos 0) 0 317)
    ∷ step_of lake
    ∷ step_of (lend [] 0 (pos 0 ∷ []) [] 4096 317 64 4 (end 0 0) (end 0 0))
    ∷ step_of (two_cells uneven (pos 0) 0 0)
    ∷ step_of (two_cells uneven (pos 1) 0 317)
    ∷ step_of (two_cells uneven (pos 0) 201 317)
    ∷ step_of (two_cells uneven (pos 4098) 0 317)
    ∷ step_of (one_cell 5 161)
    ∷ step_of (two_cells uneven (pos 0) 0 600)
    ∷ step_of brimming
    ∷ []
    ≡ accepted moved (pos 0) (pos 0)
    ∷ accepted shore (pos 0) (pos 0)
    ∷ refused 1 0
    ∷ refused 2 0
    ∷ refused 3 1
    ∷ refused 4 1
    ∷ refused 5 1
    ∷ refused 6 0
    ∷ refused 7 0
    ∷ refused 8 0
    ∷ []
unfolding step_of number place filled crossed misfit refusal refused_at checks early stage_checks verdict spot any some lowest
    bad_end bad_call bad_bed bad_rough off_cell off fast_cell fast_friction fast_inflow fast_face fast_points fast_gauss too_long
    rub rubbed_cell rubbed stage_one half carry joined_cell joined next cube_of cube drag slowed
    parted marked shallow_left shallow_right spared minmod with_right with_left limited is_limited limit beyond clipped cut dried finish
    share carried gauss push tilt update stage z0 z1 h0 h1 hl hr side_l side_r cross_right cross_at volume
    outer inflow_speed inflow left_end right_end speed wave_of wave u_star a_star left_wave right_wave mass mixture mixed top
    nothing alone between sided wet face min_z max_z size_z bits largest row columns table_of
each_gives = refl

-- ---- the two that are accepted are runs, of one call each
abbrev besides : {n : ℕ} (friction : List ℕ) → length friction ≡ n → ℕ → End → End → Besides n
besides friction e dt left right =
    record { friction = friction; cells = e; dt = dt; jump = 64; dry = 4; left = left; right = right }

as_run : {n : ℕ} (bed s t : List ℤ) (g : Besides n) → step_of (lending bed 4096 s (length s) g) ≡ accepted t (pos 0) (pos 0)
    → Calls bed n 4096 s t (pos 0) (pos 0)
unfolding volumes code answer number_in leaves
as_run bed s t g e = more s t t s (accepted_with (pos 0) (pos 0)) (pos 0) (pos 0) (pos 0) (pos 0) refl
    (record {
      given = g;
      gave = record { says = sym (ap answer e); number = sym (ap number_in e); table = sym (ap (λ (o : Outcome). leaves o s) e) };
    }) (none t)

abbrev first : List Outcome → Outcome
first [] = refused 0 0
first (o ∷ os) = o

abbrev rest : List Outcome → List Outcome
rest [] = []
rest (o ∷ os) = os

pub moves : Calls (pos 0 ∷ pos 0 ∷ pos 0 ∷ []) 2 4096 uneven moved (pos 0) (pos 0)
moves = as_run (pos 0 ∷ pos 0 ∷ pos 0 ∷ []) uneven moved (besides (0 ∷ 0 ∷ []) refl 317 (end 0 0) (end 0 0)) (ap first each_gives)

pub keeps : Calls rising 3 4096 shore shore (pos 0) (pos 0)
keeps = as_run rising shore shore (besides (30 ∷ 30 ∷ 30 ∷ []) refl 435 (end 0 0) (end 1 0))
    (ap (λ (os : List Outcome). first (rest os)) each_gives)

-- ---- and the second is lent a lake at rest
still : (i : ℕ) → i < 3 → (discharge shore 3 i ≡ pos 0) × (discharge_slope shore 3 i ≡ pos 0)
still zero l = (refl, refl)
still (suc zero) l = (refl, refl)
still (suc (suc zero)) l = (refl, refl)
still (suc (suc (suc i))) l = let z : ⊥ = omega arith in absurd z

dry_or_flat : (i : ℕ) → i < 3
    → ((level shore 3 i ≡ mean_bed rising i) × (level_slope shore 3 i ≡ bed_slope rising i))
    ⊎ ((level_slope shore 3 i ≡ pos 0) × (at rising i ≤ℤ level shore 3 i) × (at rising (suc i) ≤ℤ level shore 3 i))
unfolding mean_bed bed_slope
dry_or_flat zero l = inr (refl, le! (lit 0) (lit 4096) (omega arith), le! (lit 2048) (lit 4096) (omega arith))
dry_or_flat (suc zero) l = inr (refl, le! (lit 2048) (lit 4096) (omega arith), le! (lit 4096) (lit 4096) (omega arith))
dry_or_flat (suc (suc zero)) l = inl (refl, refl)
dry_or_flat (suc (suc (suc i))) l = let z : ⊥ = omega arith in absurd z

one_level : (i : ℕ) → suc i < 3
    → (level shore 3 i +ℤ level_slope shore 3 i) ≡ (level shore 3 (suc i) -ℤ level_slope shore 3 (suc i))
one_level zero l = refl
one_level (suc zero) l = refl
one_level (suc (suc i)) l = let z : ⊥ = omega arith in absurd z

pub at_rest : Lake rising shore 3
at_rest = record { mean = λ i l. (still i l).0; slope = λ i l. (still i l).1; cell = dry_or_flat; meet = one_level }

-- ---- the sums of seventeen cells, a whole block and one of a single cell
pub each_makes :
    making_of flat seventeen 2
    ∷ making_of flat seventeen 1
    ∷ making_of (pos 0 ∷ pos 1 ∷ []) (pos 4 ∷ pos 0 ∷ pos 0 ∷ pos 0 ∷ []) 1
    ∷ making_of (pos 4 ∷ pos 4 ∷ []) (pos 3 ∷ pos 0 ∷ pos 0 ∷ pos 0 ∷ []) 1
    ∷ []
    ≡ made two_sums ∷ unmade 1 ∷ unmade 3 ∷ unmade 5 ∷ []
unfolding making_of making_refusal making_checks state_checks verdict some any misfit_state bad_bed off_cell hl hr h0 h1 z0 z1 size_z
    sums_of block_sum block_to sum_from row columns table_of
each_makes = refl

-- the whole reach, the first block, all but the first cell, three cells, no cell; faces out of order and beyond the reach; too many sums;
-- and sums that are not those of the state, over a bed that is odd and below nought
pub each_tells :
    between_of flat seventeen two_sums 0 17
    ∷ between_of flat seventeen two_sums 0 16
    ∷ between_of flat seventeen two_sums 1 17
    ∷ between_of flat seventeen two_sums 14 17
    ∷ between_of flat seventeen two_sums 5 5
    ∷ between_of flat seventeen two_sums 3 2
    ∷ between_of flat seventeen two_sums 0 18
    ∷ between_of flat seventeen (pos 0 ∷ two_sums) 3 2
    ∷ between_of (neg_ℤ (pos 1) ∷ pos 0 ∷ neg_ℤ (pos 3) ∷ []) uneven (neg_ℤ (pos 7) ∷ []) 0 1
    ∷ between_of (neg_ℤ (pos 1) ∷ pos 0 ∷ neg_ℤ (pos 3) ∷ []) uneven (neg_ℤ (pos 7) ∷ []) 0 2
    ∷ []
    ≡ tells (pos 153) 0 2
    ∷ tells (pos 136) 0 1
    ∷ tells (pos 152) 15 1
    ∷ tells (pos 48) 2 1
    ∷ tells (pos 0) 0 0
    ∷ unanswered 10
    ∷ unanswered 10
    ∷ unanswered 1
    ∷ tells (pos 6144) 1 0
    ∷ tells (neg_ℤ (pos 7)) 0 1
    ∷ []
unfolding between_of question_refusal question_checks verdict some any misfit_state reading count whole_block lone_cell h0 z0
    block_to sum_from row columns table_of
each_tells = refl

-- ---- what is made is made of the state; and the call that moves water keeps the sums of its two cells
pub made_of : MadeFrom flat seventeen two_sums
unfolding made_answer made_number made_leaves
made_of = by_making (Ok tt) (pos 0 ∷ pos 0 ∷ []) two_sums
    (record {
      says = sym (ap made_answer is);
      number = sym (ap made_number is);
      table = sym (ap (λ (m : Making). made_leaves m (pos 0 ∷ pos 0 ∷ [])) is);
    }) refl
  where
    is : making_of flat seventeen 2 ≡ made two_sums
    is = ap head each_makes
      where
        head : List Making → Making
        head [] = unmade 0
        head (m ∷ ms) = m

pub moves_kept : CallsKeeping (pos 0 ∷ pos 0 ∷ pos 0 ∷ []) 2 4096 uneven moved (pos 10240 ∷ []) (pos 10240 ∷ []) (pos 0) (pos 0)
unfolding volumes code answer number_in leaves keeping_of sums_after sums_of block_sum block_to sum_from h0 z0 row
moves_kept = more_kept uneven moved moved (pos 10240 ∷ []) (pos 10240 ∷ []) (pos 10240 ∷ []) uneven (accepted_with (pos 0) (pos 0))
    (pos 0) (pos 0) (pos 0) (pos 0) refl
    (record {
      given = besides (0 ∷ 0 ∷ []) refl 317 (end 0 0) (end 0 0);
      gave = record {
        step = record {
          says = sym (ap answer is);
          number = sym (ap number_in is);
          table = sym (ap (λ (o : Outcome). leaves o uneven) is);
        };
        kept = sym (ap (λ (o : Outcome). sums_after (pos 0 ∷ pos 0 ∷ pos 0 ∷ []) o (pos 10240 ∷ [])) is);
      };
    }) (none_kept moved (pos 10240 ∷ []))
  where
    is : step_of (two_cells uneven (pos 0) 0 317) ≡ accepted moved (pos 0) (pos 0)
    is = ap first each_gives
