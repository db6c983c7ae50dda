-- Demand 3: the laws of a call by its refusal number. `Chain` has what follows over any number of them.
-- Assumes nothing.
use Rattle.std.proofs.Math.Path.{◌≡◌}
use Rattle.std.proofs.Common.{sym, ◌∙◌, eqb→eq}
use Rattle.std.specs.Prelude.{true, false, not, [], ◌∷◌, ◌++◌, ◌⊎◌, ℕ, suc, ◌%◌, ◌<◌, eqb, ℤ, pos, nat_abs, ◌*ℤ◌, ◌≤ℤ◌, ◌<ℤ◌}
use Rattle.std.proofs.Math.Logic.{inl, inr}
use native.Mathlib.Omega.{arith}
use Rattle.whole.specs.Flags.{or_r, not_f, held, by}
use Rattle.whole.specs.Parts.{of_le}
use Rattle.whole.specs.Difference.{at, lit, le!, lt! }
use Rattle.whole.specs.Tests.{lt_no, lt_yes, no_lt}
use Rattle.whole.specs.Choice.{size_z}
use Rattle.tables.specs.Some.{some}
use Rattle.tables.proofs.Some.{some_none, some_yes}
use Rattle.tables.specs.Cells.{Cell}
use Rattle.rules.specs.Limits.{longest_cell, longest_step, largest_jump, highest_bed, deepest, fullest, fastest}
use Rattle.rules.specs.Face.{speed}
use Rattle.rules.specs.Lawful.{Lawful}
use Rattle.rules.specs.Reach.{Reach, Call, State, ql, qr, Bed, under, h0, hl, hr}
use Rattle.rules.specs.Stage.{face_at}
use Rattle.rules.specs.Step.{rubbed, stage_one, carry, next}
use Rattle.rules.specs.Refusals.{outside, past, call_tests, bad_end, bad_call, bad_bed, cell_tests, off_cell, off}
use Rattle.rules.specs.Refusals.{fast_cell, fast_friction, fast_face, too_long}
use Rattle.rules.specs.Refusals.{each, stage_checks, early, checks, verdict, refusal, Clear}
use Rattle.rules.specs.AtRest.{AtRest}
use Rattle.rules.specs.Laws.Agree.{Same}
use Rattle.rules.proofs.Laws.Inside.{above_least, below_most}
use Rattle.rules.proofs.Laws.Accept.{none_at, One, any_one, passed}
use Rattle.rules.proofs.Laws.Verdicts.{cleared, clear_at, of_call_lem, clear_parts}
use Rattle.rules.proofs.Laws.Order as order
use Rattle.rules.proofs.Laws.Late.{late}
use Rattle.rules.proofs.Laws.Positive.{Fine, Nonneg, Wet, mean≥0, Brief, stage_one_wet, next_wet}
use Rattle.rules.proofs.Laws.EvenBed.{even_of, EvenBed}
use Rattle.rules.proofs.Laws.EndChecks.{SlowInflows, slow_inflows}
use Rattle.rules.specs.Laws.Rest.{NoInflow}
use Rattle.rules.proofs.Laws.Rest.{next_rest, carry_none}

-- ---- what the checks say
pub fine : (r : Reach) (c : Call) → bad_call r c ≡ false → Fine r c
unfolding bad_call
fine r c e =
    let fails = none_at (call_tests r c) e in
    record {
      dx = lt! (lit 0) (at r.dx) (omega (arith, of_le (above_least (pos 1) longest_cell r.dx (fails 0))));
      dt = le! (lit 0) (at c.dt) (omega (arith, of_le (above_least (pos 1) longest_step c.dt (fails 1))));
      jump = above_least (pos 0) largest_jump c.jump (fails 2);
    }

pub even_bed : (r : Reach) → some (λ i. bad_bed (r.bed i)) (suc r.n) ≡ false → EvenBed r
unfolding bad_bed
even_bed r e i l =
    let z = r.bed i in let odd = eqb (nat_abs z % 2) 0 in
    let f : bad_bed z ≡ false = some_none (λ i. bad_bed (r.bed i)) (suc r.n) e i l in
    even_of z (eqb→eq (nat_abs z % 2) 0 (held odd (not_f odd (or_r (outside (pos 0) highest_bed z) (not odd) f))))

-- the depths that a state in range shows at the faces of a cell
depths_in : (r : Reach) (s : State) → some (off r s) r.n ≡ false → (i : ℕ) → i < r.n → let b = under r i in let x = s i in
    (outside (pos 0) deepest (hl b x) ≡ false) × (outside (pos 0) deepest (hr b x) ≡ false)
unfolding off off_cell
depths_in r s e i l = let fails = none_at (cell_tests (under r i) (s i)) (some_none (off r s) r.n e i l) in (fails 0, fails 1)

pub in_range : (r : Reach) (s : State) → some (off r s) r.n ≡ false → Wet r s
in_range r s e i l = let b = under r i in let x = s i in let k = depths_in r s e i l in
    record { left = above_least (pos 0) deepest (hl b x) k.0; right = above_least (pos 0) deepest (hr b x) k.1 }

pub in_depth : (r : Reach) (s : State) → some (off r s) r.n ≡ false → (i : ℕ) → i < r.n → hl (under r i) (s i) ≤ℤ deepest
in_depth r s e i l = below_most (pos 0) deepest (hl (under r i) (s i)) (depths_in r s e i l).0

brief : (r : Reach) (c : Call) (s : State) → some (too_long r c s) (suc r.n) ≡ false → Brief r c s
unfolding too_long
brief r c s e i l = lt_no (pos 4096 *ℤ r.dx) (pos 2 *ℤ c.dt *ℤ (face_at r c s i).S) (some_none (too_long r c s) (suc r.n) e i l)

pub stage_brief : (r : Reach) (c : Call) (s : State) → Clear (stage_checks r c s) → Brief r c s
unfolding stage_checks
stage_brief r c s k = brief r c s (clear_at (stage_checks r c s) k order.faces)

-- a call that passed the checks up to stage one's faces
pub record Early (r : Reach) (c : Call) (s : State) : Type 0 where
  pub fine : Fine r c
  pub even : EvenBed r
  pub wet : Wet r s
  pub brief : Brief r c (rubbed r c s)

pub early_of : (r : Reach) (c : Call) (s : State) → Clear (early r c s) → Early r c s
unfolding early stage_checks
early_of r c s k =
    let clear = clear_at (early r c s) k in
    record {
      fine = fine r c (sym (of_call_lem 2 (bad_call r c)) ∙ clear order.call);
      even = even_bed r (clear order.beds);
      wet = in_range r s (clear order.state);
      brief = brief r c (rubbed r c s) (clear order.faces_one);
    }

-- ---- an 8 is due to a value too large, never to a depth below nought
abbrev pub TooLarge : Bed → Cell → Type 0
TooLarge b x = (deepest <ℤ hl b x) ⊎ ((deepest <ℤ hr b x) ⊎ ((fullest <ℤ size_z (ql x)) ⊎ (fullest <ℤ size_z (qr x))))

-- every depth is at or above nought, and some value is too large
pub record Large (r : Reach) (s : State) : Type 0 where
  pub wet : Wet r s
  pub cell : ℕ
  pub below : cell < r.n
  pub large : TooLarge (under r cell) (s cell)

large_of : (r : Reach) (s : State) → Wet r s → some (off r s) r.n ≡ true → Large r s
unfolding off off_cell
large_of r s w e = let f = some_yes (off r s) r.n e in let i = f.0 in let b = under r i in let x = s i in
    record {
      wet = w;
      cell = i;
      below = f.1;
      large = go b x (w i f.1) (any_one (cell_tests b x) f.2);
    }
  where
    too_deep : (d : ℤ) → pos 0 ≤ℤ d → outside (pos 0) deepest d ≡ true → deepest <ℤ d
    too_deep d h e = lt_yes deepest d (rw (no_lt d (pos 0) h) at e)

    go : (b : Bed) (x : Cell) → Nonneg b x → One (cell_tests b x) → TooLarge b x
    go b x n (inl a) = inl (too_deep (hl b x) n.left a)
    go b x n (inr (inl a)) = inr (inl (too_deep (hr b x) n.right a))
    go b x n (inr (inr (inl a))) = inr (inr (inl (lt_yes fullest (size_z (ql x)) a)))
    go b x n (inr (inr (inr (inl a)))) = inr (inr (inr (lt_yes fullest (size_z (qr x)) a)))
    go b x n (inr (inr (inr (inr z)))) = elim z [ ]

module _ (r : Reach) (law : Lawful r.face) (c : Call) (s : State) where
  -- stage one's finished state, and the end state, have no depth below nought
  pub wet_stage_one : Early r c s → Wet r (stage_one r c s)
  wet_stage_one a = stage_one_wet r law c a.fine s a.wet a.brief

  pub wet_next : Early r c s → Brief r c (stage_one r c s) → Wet r (next r c s)
  wet_next a b = next_wet r law c a.fine s a.wet a.brief b

  -- which is so of every call that reaches them: none of the checks before them is met
  pub reached_one : Clear (early r c s) → Wet r (stage_one r c s)
  reached_one k = wet_stage_one (early_of r c s k)

  pub reached_end : Clear (early r c s ++ each 8 r.n (off r (stage_one r c s)) ∷ stage_checks r c (stage_one r c s)) → Wet r (next r c s)
  reached_end k = let p = clear_parts (early r c s) (each 8 r.n (off r (stage_one r c s)) ∷ stage_checks r c (stage_one r c s)) k in
      wet_next (early_of r c s p.0) (stage_brief r c (stage_one r c s) p.1.1)

  -- the two states whose range is checked by an 8: the finished stage one, and the end state
  pub eight : refusal r c s ≡ 8 → Large r (stage_one r c s) ⊎ Large r (next r c s)
  unfolding refusal checks early stage_checks verdict
  eight e =
      let a = some (off r (stage_one r c s)) r.n in let b = some (off r (next r c s)) r.n in
      let p = passed 8 (early r c s) (late r c s) tt e in
      let k : Early r c s = early_of r c s p.0 in
      by a
      (λ d. inl (large_of r (stage_one r c s) (wet_stage_one k) d))
      (λ d.
      let q = passed 8 (stage_checks r c (stage_one r c s)) (each 8 r.n (off r (next r c s)) ∷ []) tt (rw d at p.1) in
      inr (large_of r (next r c s) (wet_next k (stage_brief r c (stage_one r c s) q.0))
      (by b (λ x. x) (λ x. let z : ◌≡◌ {A = ℕ} 0 8 = rw x at q.1 in let y : ⊥ = omega arith in absurd y))))

-- ---- an accepted call
pub record Accepted (r : Reach) (c : Call) (s : State) : Type 0 where
  pub early : Early r c s
  pub now : some (off r s) r.n ≡ false
  pub brief : Brief r c (stage_one r c s)
  pub one : some (off r (stage_one r c s)) r.n ≡ false
  pub end : some (off r (next r c s)) r.n ≡ false

pub accepted : (r : Reach) (c : Call) (s : State) → refusal r c s ≡ 0 → Accepted r c s
unfolding refusal checks early stage_checks
accepted r c s e =
    let p = passed 0 (early r c s) (late r c s) tt e in
    let clear = clear_at (late r c s) (cleared (late r c s) tt (sym p.1)) in
    record {
      early = early_of r c s p.0;
      now = clear_at (early r c s) p.0 order.state;
      brief = brief r c (stage_one r c s) (clear order.faces_two);
      one = clear order.stage_one_lem;
      end = clear order.end;
    }

-- it passed every check up to stage one's faces
pub accepted_early : (r : Reach) (c : Call) (s : State) → refusal r c s ≡ 0 → Clear (early r c s)
unfolding refusal checks early stage_checks
accepted_early r c s e = (passed 0 (early r c s) (late r c s) tt e).0

-- and no cell of the state it starts from is faster than 131,072, with friction or without
pub accepted_slow : (r : Reach) (c : Call) (s : State) → refusal r c s ≡ 0 → (i : ℕ) → i < r.n
    → past fastest (speed c.dry (s i).q0 (h0 (under r i) (s i))) ≡ false
unfolding early fast_friction fast_cell
accepted_slow r c s e i l =
    some_none (fast_friction r c s) r.n (clear_at (early r c s) (accepted_early r c s e) order.friction) i l

-- nor is any speed at a face of either stage, that of an inflow included
pub accepted_speeds : (r : Reach) (c : Call) (s : State) → refusal r c s ≡ 0
    → (some (fast_face r c (rubbed r c s)) (suc r.n) ≡ false) × (some (fast_face r c (stage_one r c s)) (suc r.n) ≡ false)
unfolding refusal checks early stage_checks
accepted_speeds r c s e =
    let p = passed 0 (early r c s) (late r c s) tt e in
    (clear_at (early r c s) p.0 order.speeds_one, clear_at (late r c s) (cleared (late r c s) tt (sym p.1)) order.speeds_two)

pub accepted_inflows : (r : Reach) (c : Call) (s : State) → 0 < r.n → refusal r c s ≡ 0
    → SlowInflows r c (rubbed r c s) × SlowInflows r c (stage_one r c s)
accepted_inflows r c s o e = let p = accepted_speeds r c s e in
    (slow_inflows r c (rubbed r c s) o p.0, slow_inflows r c (stage_one r c s) o p.1)

-- and its ends are in their lists
pub accepted_ends : (r : Reach) (c : Call) (s : State) → refusal r c s ≡ 0 → (bad_end c.left ≡ false) × (bad_end c.right ≡ false)
unfolding early bad_call
accepted_ends r c s e =
    let clear = clear_at (early r c s) (accepted_early r c s e) order.call in
    let fails = none_at (call_tests r c) (sym (of_call_lem 2 (bad_call r c)) ∙ clear) in
    (fails 4, fails 5)

-- no depth, mean or face, is below nought: in the state it starts from, in the finished stage one, in the end state
pub record Depths (r : Reach) (s : State) : Type 0 where
  pub faces : Wet r s
  pub mean : (i : ℕ) → i < r.n → pos 0 ≤ℤ h0 (under r i) (s i)

pub depths : (r : Reach) (s : State) → Wet r s → Depths r s
depths r s w = record { faces = w; mean = λ i l. mean≥0 (under r i) (s i) (w i l) }

pub accepted_depths : (r : Reach) → Lawful r.face → (c : Call) (s : State) → refusal r c s ≡ 0
    → (Depths r s) × (Depths r (stage_one r c s)) × (Depths r (next r c s))
accepted_depths r law c s e = let p = accepted r c s e in (
  depths r s p.early.wet,
  depths r (stage_one r c s) (wet_stage_one r law c s p.early),
  depths r (next r c s) (wet_next r law c s p.early p.brief),
)

-- a call that is accepted and brings no water in keeps every number of a lake at rest, and nothing crosses its ends
pub accepted_rest : (r : Reach) → Lawful r.face → 0 < r.n → (c : Call) (s : State) → refusal r c s ≡ 0 → NoInflow c → AtRest r s
    → (Same r (next r c s) s) × (carry r c s 0 ≡ pos 0) × (carry r c s r.n ≡ pos 0)
accepted_rest r law o c s e shut a = let p = accepted r c s e in let ev = p.early.even in let j = p.early.fine.jump in (
  next_rest r law ev o c shut j s a,
  carry_none r law ev o c shut j s a 0 (omega arith),
  carry_none r law ev o c shut j s a r.n (omega arith),
)
