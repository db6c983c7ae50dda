-- What the checks say: of a call that passed them up to the faces, of an 8, and of an accepted call.
-- Assumes nothing.
use Rattle.std.specs.Prelude.{◌≡◌, true, false, [], ◌∷◌, ◌⊎◌, ℕ, suc, ◌<◌, ℤ, pos, ◌*ℤ◌, ◌≤ℤ◌, ◌<ℤ◌}
use Rattle.std.proofs.Common.{sym, ◌∙◌, inl, inr, arith}
use Rattle.whole.specs.Flags.{by}
use Rattle.whole.specs.Parts.{of_le}
use Rattle.whole.specs.Difference.{at, lit, le!, lt! }
use Rattle.whole.specs.Tests.{lt_no, lt_yes, no_lt}
use Rattle.whole.specs.Choice.{size_z}
use Rattle.tables.specs.Some.{some}
use Rattle.tables.proofs.Some.{some_none, some_yes}
use Rattle.tables.specs.Pools.{Pool}
use Rattle.rules.specs.Limits.{longest_cell, longest_step, least_dry, most_dry, deepest, fullest}
use Rattle.rules.specs.Lawful.{Lawful}
use Rattle.rules.specs.Refusals.{outside, each, verdict, Clear}
use Rattle.rules.proofs.Laws.Inside.{above_least, below_most}
use Rattle.rules.proofs.Laws.Accept.{none_at, One, any_one, passed}
use Rattle.rules.proofs.Laws.Verdicts.{cleared, clear_at, clear_parts, of_call_lem}
use Rattle.sill_rules.specs.Reach.{Reach, Call, State, depth}
use Rattle.sill_rules.specs.Step.{face_at, rubbed, next, carry}
use Rattle.sill_rules.specs.Refusals.{call_tests, bad_call, pool_tests, off_pool, off, fast_friction, too_long, early, checks, refusal}
use Rattle.sill_rules.specs.AtRest.{AtRest}
use Rattle.sill_rules.proofs.Laws.Order as order
use Rattle.sill_rules.proofs.Laws.Agree.{Same}
use Rattle.sill_rules.proofs.Laws.Positive.{Fine, Wet, Brief, next_wet}
use Rattle.sill_rules.proofs.Laws.Rest.{next_rest, carry_none}

-- ---- each check that fails
pub fine : (r : Reach) (c : Call) → bad_call r c ≡ false → Fine r c
unfolding bad_call
fine r c e =
    let fails = none_at (call_tests r c) e in
    record {
      dx = lt! (lit 0) (at r.dx) (omega (arith, of_le (above_least (pos 1) longest_cell r.dx (fails 0))));
      dt = le! (lit 0) (at c.dt) (omega (arith, of_le (above_least (pos 1) longest_step c.dt (fails 1))));
      dry = above_least least_dry most_dry c.dry (fails 2);
    }

depth_in : (r : Reach) (s : State) → some (off r s) r.n ≡ false → (i : ℕ) → i < r.n
    → outside (pos 0) deepest (depth (r.bed i) (s i)) ≡ false
unfolding off off_pool
depth_in r s e i l = none_at (pool_tests (r.bed i) (s i)) (some_none (off r s) r.n e i l) 0

pub in_range : (r : Reach) (s : State) → some (off r s) r.n ≡ false → Wet r s
in_range r s e i l = above_least (pos 0) deepest (depth (r.bed i) (s i)) (depth_in r s e i l)

pub in_depth : (r : Reach) (s : State) → some (off r s) r.n ≡ false → (i : ℕ) → i < r.n → depth (r.bed i) (s i) ≤ℤ deepest
in_depth r s e i l = below_most (pos 0) deepest (depth (r.bed i) (s i)) (depth_in r s e i l)

brief : (r : Reach) (c : Call) (s : State) → some (too_long r c s) (suc r.n) ≡ false → Brief r c s
unfolding too_long
brief r c s e i l = lt_no (pos 4096 *ℤ r.dx) (pos 2 *ℤ c.dt *ℤ (face_at r c s i).S) (some_none (too_long r c s) (suc r.n) e i l)

-- ---- a call that passed the checks up to the faces
pub record Early (r : Reach) (c : Call) (s : State) : Type 0 where
  pub fine : Fine r c
  pub wet : Wet r s
  pub slow : some (fast_friction r c s) r.n ≡ false
  pub brief : Brief r c (rubbed r c s)

pub early_of : (r : Reach) (c : Call) (s : State) → Clear (early r c s) → Early r c s
unfolding early
early_of r c s k =
    let clear = clear_at (early r c s) k in
    record {
      fine = fine r c (sym (of_call_lem 2 (bad_call r c)) ∙ clear order.call);
      wet = in_range r s (clear order.state);
      slow = clear order.friction;
      brief = brief r c (rubbed r c s) (clear order.faces);
    }

-- its end state has no depth below nought
pub reached_end : (r : Reach) → Lawful r.face → (c : Call) (s : State) → Clear (early r c s) → Wet r (next r c s)
reached_end r law c s k = let a = early_of r c s k in next_wet r law c a.fine s a.wet a.brief

-- ---- an 8 is due to a value too large, never to a depth below nought
abbrev pub TooLarge : ℤ → Pool → Type 0
TooLarge z x = (deepest <ℤ depth z x) ⊎ (fullest <ℤ size_z x.q)

-- every depth is at or above nought, and some value is too large
pub record Large (r : Reach) (s : State) : Type 0 where
  pub wet : Wet r s
  pub cell : ℕ
  pub below : cell < r.n
  pub large : TooLarge (r.bed cell) (s cell)

large_of : (r : Reach) (s : State) → Wet r s → some (off r s) r.n ≡ true → Large r s
unfolding off off_pool
large_of r s w e = let f = some_yes (off r s) r.n e in let i = f.0 in let z = r.bed i in
    record { wet = w; cell = i; below = f.1; large = go z (s i) (w i f.1) (any_one (pool_tests z (s i)) f.2) }
  where
    go : (z : ℤ) (x : Pool) → pos 0 ≤ℤ depth z x → One (pool_tests z x) → TooLarge z x
    go z x h (inl a) = inl (lt_yes deepest (depth z x) (rw (no_lt (depth z x) (pos 0) h) at a))
    go z x h (inr (inl a)) = inr (lt_yes fullest (size_z x.q) a)
    go z x h (inr (inr y)) = elim y [ ]

pub eight : (r : Reach) → Lawful r.face → (c : Call) (s : State) → refusal r c s ≡ 8 → Large r (next r c s)
unfolding refusal checks early verdict
eight r law c s e =
    let b = some (off r (next r c s)) r.n in
    let p = passed 8 (early r c s) (each 8 r.n (off r (next r c s)) ∷ []) tt e in
    large_of r (next r c s) (reached_end r law c s p.0)
    (by b (λ x. x) (λ x. let z : ◌≡◌ {A = ℕ} 0 8 = rw x at p.1 in let y : ⊥ = omega arith in absurd y))

-- ---- an accepted call: none of its checks applies
pub accepted_clear : (r : Reach) (c : Call) (s : State) → refusal r c s ≡ 0 → Clear (checks r c s)
unfolding refusal checks early
accepted_clear r c s e = cleared (checks r c s) tt (sym e)

pub accepted_early : (r : Reach) (c : Call) (s : State) → refusal r c s ≡ 0 → Clear (early r c s)
unfolding checks
accepted_early r c s e = (clear_parts (early r c s) (each 8 r.n (off r (next r c s)) ∷ []) (accepted_clear r c s e)).0

pub record Accepted (r : Reach) (c : Call) (s : State) : Type 0 where
  pub early : Early r c s
  pub now : some (off r s) r.n ≡ false
  pub end : some (off r (next r c s)) r.n ≡ false

pub accepted : (r : Reach) (c : Call) (s : State) → refusal r c s ≡ 0 → Accepted r c s
unfolding checks early
accepted r c s e =
    let clear = clear_at (checks r c s) (accepted_clear r c s e) in
    record { early = early_of r c s (accepted_early r c s e); now = clear order.state; end = clear order.end }

-- no depth is below nought, in the state it starts from and in the end state
pub accepted_depths : (r : Reach) → Lawful r.face → (c : Call) (s : State) → refusal r c s ≡ 0 → (Wet r s) × (Wet r (next r c s))
accepted_depths r law c s e = ((accepted r c s e).early.wet, reached_end r law c s (accepted_early r c s e))

-- every number of a lake at rest is kept, and nothing crosses its ends
pub accepted_rest : (r : Reach) → Lawful r.face → 0 < r.n → (c : Call) (s : State) → refusal r c s ≡ 0 → AtRest r s
    → (Same r (next r c s) s) × (carry r c s 0 ≡ pos 0) × (carry r c s r.n ≡ pos 0)
accepted_rest r law o c s e a =
    (next_rest r law c s a, carry_none r law c s a o 0 (omega arith), carry_none r law c s a o r.n (omega arith))
