-- `root_bits` asks for the digits of a number of 54 bits, and rounds their whole root to the nearest.
use Rattle.digits.proofs.WholeRoot.{told}
use Rattle.root.proofs.Rounding.{nearest}
use Rattle.root.proofs.root_bits.Goals as goal

pub returns : goal.returns
returns c =
    let o = told (rw c.unwrap.ensures at c.digits.ensures) in
    nearest _ _ _ _ _ c.scaled-n.ensures o c.rounded.ensures
