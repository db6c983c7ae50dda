-- To be believed. The code's sides of a face and what crosses it, as the rules'.
use Rattle.rules.specs.Face as rules
use Rattle.face.specs.declared.sides.Side.{Side}
use Rattle.face.specs.declared.sides.Flux.{Flux}

abbrev pub side_in : Side → rules.Side
side_in x = record { h = x.h; u = x.u }

abbrev pub flux_in : Flux → rules.Flux
flux_in x = record { F = x.f; K = x.k; A = x.a; S = x.s }
