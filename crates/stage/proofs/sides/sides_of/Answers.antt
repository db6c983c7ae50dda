-- The sides of a cell are those of its two depths and its two discharges.
use Rattle.whole.specs.Machine.{back}
use Rattle.rules.specs.Reach.{hl, hr, side_l, side_r}
use Rattle.stage.specs.Laws.CellSizes.{cell_sizes}
use Rattle.stage.proofs.sides.sides_of.Goals as goal

pub depths-h-requires : goal.depths-h-requires
depths-h-requires c = record { grounded = c.requires.inside.grounded; wide = (cell_sizes c.requires.inside).wide }

pub places_of-requires : goal.places_of-requires
places_of-requires c =
    let a4 = c in let a3 = a4.before in let a2 = a3.before in let a1 = a2.before in let d = a1.before in let s = d.before in
    rw (
      back a1.places_of-arg-1.given,
      back a2.places_of-arg-2-1.given,
      back a3.places_of-arg-3-1.given,
      back a4.places_of-arg-4-1.given,
      d.depths-h.ensures,
      back {z = s.args.dry} s.ranges.dry.sfits,
    )
    record { around = (cell_sizes s.requires.inside).faces; dry_depth = s.requires.dry_depth }

pub returns : goal.returns
unfolding side_l side_r hl hr
returns c =
    let a4 = c.before in let a3 = a4.before in let a2 = a3.before in let a1 = a2.before in let d = a1.before in
    rw (
      back {z = d.args.dry} d.ranges.dry.sfits,
      back a1.places_of-arg-1.given,
      back a2.places_of-arg-2-1.given,
      back a3.places_of-arg-3-1.given,
      back a4.places_of-arg-4-1.given,
      d.depths-h.ensures,
    )
    at c.places_of.ensures
