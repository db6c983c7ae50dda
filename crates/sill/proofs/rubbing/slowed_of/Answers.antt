-- Within the limits the crate of friction gives the rule's numbers, both times.
use Rattle.std.proofs.Common.{◌≡◌, ◌∙◌, ℤ, pos, ◌≤ℤ◌}
use Rattle.std.specs.Prelude.{Some}
use mir.Facts.{to_z-of_z}
use Rattle.std.proofs.Math.Nat as NatL
use Rattle.whole.specs.Parts.{lt_le}
use Rattle.whole.specs.Machine.{back_in}
use Rattle.rules.specs.Limits.{fullest, fastest}
use Rattle.rules.specs.Friction.{drag, slowed}
use Rattle.rules.proofs.Laws.Friction.{drag_nonneg, slowed_size}
use Rattle.reach.specs.Ranges.{UpTo}
use Rattle.friction.specs.declared.strength.Rubbing.{Rubbing}
use Rattle.friction.specs.Given.{strongest, strength_given}
use Rattle.friction.specs.Strength.{Ranged, wet, drag_most}
use Rattle.friction.proofs.Fits.{strength_given_lem, slowed_given_lem}
use Rattle.sill.proofs.rubbing.slowed_of.Goals as goal

-- the strength, and its size; what it leaves is no larger than what there was
module _ {at : Rubbing} (r : Ranged at) (slow : UpTo fastest at.u) where
  abbrev strong : ℤ
  strong = drag at.dt at.rough at.h at.u

  given : strength_given at.dt at.rough at.h at.u ≡ Some strong
  given = strength_given_lem at.dt at.rough at.h at.u r.step r.rough r.wet slow

  within : (pos 0 ≤ℤ strong) × UpTo strongest strong
  within = (
    drag_nonneg at.dt at.rough at.h at.u r.step.0 (lt_le (wet at.h r.wet.0 r.wet.1)),
    drag_most at.h r.wet.0 r.wet.1 at.dt at.rough at.u r.step.1 r.rough.1 slow,
  )

  slowed_in : (q : ℤ) → UpTo fullest q → UpTo fullest (slowed strong q)
  slowed_in q full = record { abs = NatL.le_trans (slowed_size strong q within.0) full.abs }

pub unwrap-x-requires : goal.unwrap-x-requires
unwrap-x-requires c = rw (c.strength.ensures ∙ given c.requires.ranged c.requires.slow) (search)

left : (c : goal.After-slowed) → c.slowed.result ≡ Some (slowed (strong c.requires.ranged c.requires.slow) c.args.q)
left c =
    let r = c.requires.ranged in let s = c.requires.slow in let e = c.strength.ensures ∙ given r s in let u = c.unwrap-x.ensures in
    let x : c.unwrap-x.result ≡ strong r s = cc in
    (rw (back_in x (within r s).1 tt, to_z-of_z c.ranges.q) at c.slowed.ensures)
    ∙ slowed_given_lem (strong r s) c.args.q (within r s) c.requires.full

pub unwrap-requires : goal.unwrap-requires
unwrap-requires c = rw (left c) (search)

pub returns : goal.returns
returns c =
    let r = c.requires.ranged in let s = c.requires.slow in let e = left c.before in let u = c.unwrap.ensures in
    let is : c.unwrap.result ≡ slowed (strong r s) c.args.q = cc in
    back_in is (slowed_in r s c.args.q c.requires.full) tt
