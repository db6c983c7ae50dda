-- The depths, the bed and the pressures of a cell in range are those that E and D can take.
use Rattle.std.specs.Prelude.{◌≡◌, List, [], ◌∷◌, get_or, ℤ, pos}
use Rattle.std.proofs.Common.{◌∙◌, arith}
use Rattle.whole.specs.Machine.{back, widened}
use Rattle.tables.specs.Cells.{Cell}
use Rattle.rules.specs.Reach.{Bed, h0, h1}
use Rattle.stage.specs.declared.rows.FaceRow.{FaceRow}
use Rattle.stage.specs.Ranges.{Inside, Row, Pressed}
use Rattle.stage.specs.Laws.CellSizes.{cell_sizes}
use Rattle.stage.specs.Laws.UpdateSizes.{pressed}
use Rattle.stage.proofs.update.pressures.Goals as goal

-- the six numbers, as they were read of the depths h, the bed and the rows of the two faces
as_read : {b : Bed} {x : Cell} {h : List ℤ} {l f : FaceRow} {m s zl zr kl kr : ℤ} → Inside b x → Row l × Row f → h ≡ h0 b x ∷ h1 b x ∷ []
    → m ≡ get_or h 0 (pos 0) → s ≡ get_or h 1 (pos 0) → zl ≡ b.zl → zr ≡ b.zr → kl ≡ l.pressure → kr ≡ f.pressure
    → Pressed m s zl zr kl kr
as_read inside rows h m s zl zr kl kr =
    rw (m ∙ (λ j. get_or (h j) 0 (pos 0)), s ∙ (λ j. get_or (h j) 1 (pos 0)), zl, zr, kl, kr) (pressed inside rows.0.K rows.1.K)

pub depths-h-requires-clause-wide : goal.depths-h-requires-clause-wide
depths-h-requires-clause-wide c = (cell_sizes c.requires.inside).wide

pub push_of-requires : goal.push_of-requires
push_of-requires c = let p = c.args in let h = c.depths-h.result in
    as_read c.requires.inside c.requires.row c.depths-h.ensures (back {z = get_or h 0 (pos 0)} (omega arith))
    (back {z = get_or h 1 (pos 0)} (omega arith)) (widened {z = p.b.zl} (omega arith)) (widened {z = p.b.zr} (omega arith))
    (back {z = p.l.pressure} (omega arith)) (back {z = p.f.pressure} (omega arith))

pub tilt_of-requires : goal.tilt_of-requires
tilt_of-requires c = let p = c.args in let h = c.depths-h.result in
    as_read c.requires.inside c.requires.row c.depths-h.ensures (back {z = get_or h 0 (pos 0)} (omega arith))
    (back {z = get_or h 1 (pos 0)} (omega arith)) (widened {z = p.b.zl} (omega arith)) (widened {z = p.b.zr} (omega arith))
    (back {z = p.l.pressure} (omega arith)) (back {z = p.f.pressure} (omega arith))
