-- To be believed. The step before E6: where the level at a face lay below the bed, the shortfall was taken from both, and the depth was
-- nought.
-- All else is as before E7.
use Rattle.std.specs.Prelude.{List, ℤ, pos, neg_ℤ, ◌+ℤ◌, ◌-ℤ◌, ◌*ℤ◌}
use Rattle.std.specs.Int.Signed.{quot_z}
use Rattle.whole.specs.Choice.{max_z}
use Rattle.tables.specs.Cells.{Cell}
use Rattle.rules.specs.Face.{Side, Flux, speed}
use Rattle.rules.specs.Ends.{left_end, right_end}
use Rattle.rules.specs.Reach.{State, Bed, ql, qr, hl, hr}
use Rattle.rules.specs.Stage as rules
use Rattle.rules.specs.Refusals.{bad_call, fast_inflow, Check}
use Rattle.rules.specs.Lent.{Lent, reach_of, call_of}
use Rattle.before.specs.E13.{Outcome}
use Rattle.before.specs.E7.{state_of}
use Rattle.before.specs.Parts as before
use Rattle.before.specs.Parts.{Parts, step_by}

-- by how much the level at a face, h over the bed, falls short of it
unfoldable pub short : ℤ → ℤ
short h = max_z (pos 0) (neg_ℤ h)

-- the depth there, and the bed z, after that was taken from level and bed
unfoldable pub depth : ℤ → ℤ
depth h = h +ℤ short h

unfoldable pub grounded : ℤ → ℤ → ℤ
grounded z h = z -ℤ short h

-- the sides
unfoldable pub side_l : ℤ → Bed → Cell → Side
side_l d b x = record { h = depth (hl b x); u = speed d (ql x) (depth (hl b x)) }

unfoldable pub side_r : ℤ → Bed → Cell → Side
side_r d b x = record { h = depth (hr b x); u = speed d (qr x) (depth (hr b x)) }

-- E, and the discharge's mean after a stage
unfoldable pub push : Bed → Cell → Flux → Flux → ℤ
push b x l f = l.K -ℤ f.K -ℤ (depth (hr b x) +ℤ depth (hl b x)) *ℤ (grounded b.zr (hr b x) -ℤ grounded b.zl (hl b x))

unfoldable pub update : ℤ → ℤ → ℤ → Bed → Cell → Flux → Flux → Cell
update dx dt d b x l f = let y = rules.update dx dt d b x l f in record {
  e0 = y.e0;
  e1 = y.e1;
  q0 = x.q0 +ℤ quot_z ((l.A -ℤ f.A) *ℤ dt) dx +ℤ quot_z (pos 981 *ℤ push b x l f *ℤ dt) (pos 819200 *ℤ dx);
  q1 = y.q1;
}

abbrev pub parts : Parts
parts = record {
  side_l = side_l;
  side_r = side_r;
  left_end = left_end;
  right_end = right_end;
  fast_inflow = fast_inflow;
  update = update;
}

abbrev pub step_of : Lent → Outcome
step_of a = step_by bad_call parts a

-- checks 1 to 5 of a call; its further ones up to stage one's 8; and that stage, finished
abbrev pub checks_to_five : Lent → List Check
checks_to_five a = before.checks_to_five bad_call a

abbrev pub checks_of_one : Lent → List Check
checks_of_one a = before.checks_of_one parts (reach_of a) (call_of a) (state_of a)

abbrev pub stage_one : Lent → State
stage_one a = before.stage_one parts (reach_of a) (call_of a) (state_of a)
