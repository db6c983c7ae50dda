-- The two pairs of tests are the four of the rule.
use Rattle.std.specs.Prelude.{◌≡◌, refl, Bool, true, false, ◌||◌, [], ◌∷◌, get_or, ℤ, pos, ◌+ℤ◌, ◌-ℤ◌}
use Rattle.std.proofs.Common.{sym, ap, ap₂, subst, ◌∙◌, arith}
use Rattle.whole.specs.Machine.{back, back64}
use Rattle.tables.specs.Cells.{Cell, as_cell}
use Rattle.rules.specs.Limits.{deepest, fullest}
use Rattle.rules.specs.Reach.{Bed, h0, h1, hl, hr, ql, qr}
use Rattle.rules.specs.Refusals.{any, outside, past, off_cell}
use Rattle.reach.specs.Told.{bed_in}
use Rattle.reach.specs.Ranges.{UpTo, Unfinished}
use Rattle.finishing.specs.Depths.{widest_depth}
use Rattle.finishing.specs.Laws.Sizes.{h0_size, h1_size}
use Rattle.stage.proofs.cell.off_cell.Goals as goal

pairs : (a b c d : Bool) → ((a || b) || (c || d)) ≡ any (a ∷ b ∷ c ∷ d ∷ [])
unfolding any
pairs true b c d = refl
pairs false true c d = refl
pairs false false true d = refl
pairs false false false true = refl
pairs false false false false = refl

module _ (b : Bed) (x : Cell) where
  -- the two pairs
  abbrev off_depths : Bool
  off_depths = outside (pos 0) deepest (hl b x) || outside (pos 0) deepest (hr b x)

  abbrev off_flows : Bool
  off_flows = past fullest (ql x) || past fullest (qr x)

  -- and the rule's test, where the first of them is known
  off_is : (k : Bool) → k ≡ off_depths → (k || off_flows) ≡ off_cell b x
  unfolding off_cell
  off_is k e = ap (λ (j : Bool). j || off_flows) e
      ∙ pairs (outside (pos 0) deepest (hl b x)) (outside (pos 0) deepest (hr b x)) (past fullest (ql x)) (past fullest (qr x))

  -- what the first pair said of the depths m and s that were read
  first : {k : Bool} {m s : ℤ} → k ≡ (outside (pos 0) deepest (m -ℤ s) || outside (pos 0) deepest (m +ℤ s)) → m ≡ h0 b x → s ≡ h1 b x
      → k ≡ off_depths
  unfolding hl hr
  first e mean slope =
      e ∙ ap₂ (λ (m d : ℤ). outside (pos 0) deepest (m -ℤ d) || outside (pos 0) deepest (m +ℤ d)) mean slope

pub off_depths-requires : goal.off_depths-requires
off_depths-requires c =
    let b = bed_in c.args.b in let x = as_cell c.args.x in
    let w : Unfinished b x = record { grounded = c.requires.grounded; wide = c.requires.wide } in
    let mean = back64 {z = get_or c.depths-h.result 0 (pos 0)} (omega arith) (λ j. get_or (c.depths-h.ensures j) 0 (pos 0)) in
    let slope = back64 {z = get_or c.depths-h.result 1 (pos 0)} (omega arith) (λ j. get_or (c.depths-h.ensures j) 1 (pos 0)) in
    (subst (UpTo widest_depth) (sym mean) (h0_size b x w), subst (UpTo widest_depth) (sym slope) (h1_size b x w))

pub returns-then-off_depths : goal.returns-then-off_depths
returns-then-off_depths c =
    let b = bed_in c.args.b in let x = as_cell c.args.x in
    let mean = back64 {z = get_or c.depths-h.result 0 (pos 0)} (omega arith) (λ j. get_or (c.depths-h.ensures j) 0 (pos 0)) in
    let slope = back64 {z = get_or c.depths-h.result 1 (pos 0)} (omega arith) (λ j. get_or (c.depths-h.ensures j) 1 (pos 0)) in
    off_is b x true (sym c.if-off_depths.true ∙ first b x c.off_depths.ensures mean slope)

pub returns : goal.returns
returns c =
    let b = bed_in c.args.b in let x = as_cell c.args.x in
    let mean = back64 {z = get_or c.depths-h.result 0 (pos 0)} (omega arith) (λ j. get_or (c.depths-h.ensures j) 0 (pos 0)) in
    let slope = back64 {z = get_or c.depths-h.result 1 (pos 0)} (omega arith) (λ j. get_or (c.depths-h.ensures j) 1 (pos 0)) in
    c.off_flows.ensures
    ∙ ap₂ (λ (m c : ℤ). past fullest (m -ℤ c) || past fullest (m +ℤ c)) (back {z = x.q0} (omega arith)) (back {z = x.q1} (omega arith))
    ∙ off_is b x false (sym c.if-off_depths.false ∙ first b x c.off_depths.ensures mean slope)
