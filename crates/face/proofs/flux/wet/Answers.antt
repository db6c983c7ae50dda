-- The two waves are the rule's, and so no faster than a face can have them.
use Rattle.whole.specs.Machine.{back64}
use Rattle.rules.proofs.Laws.Sizes.{left_wave_size, right_wave_size}
use Rattle.face.proofs.flux.wet.Goals as goal

pub sided-requires-clause-bounded : goal.sided-requires-clause-bounded
sided-requires-clause-bounded c =
    let p = c.requires.0.sound in let q = c.requires.1.sound in
    record {
      left_in = rw (back64 c.left_wave.type_inv c.left_wave.ensures) (left_wave_size _ _ p q);
      right_in = rw (back64 c.right_wave.type_inv c.right_wave.ensures) (right_wave_size _ _ p q);
    }
