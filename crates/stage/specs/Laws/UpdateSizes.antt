-- Sizes of the lines of an update: of what a slope changes by, and of the pressures E and D of a cell in range, which a thrust can take.
-- Assumes nothing.
use Rattle.std.specs.Prelude.{List, [], ◌∷◌, ℤ, pos, ◌*ℤ◌, ◌<ℤ◌}
use Rattle.std.proofs.Common.{arith}
use Rattle.whole.specs.Parts.{of_lt, b_add, b_sub, b_mul, b_lit, b_up, b_nonneg}
use Rattle.whole.specs.Difference.{at, lit, ◌⊠◌, le!, lt! }
use Rattle.whole.specs.Quotient.{b_quot, b_quot_by, b_quot_ge}
use Rattle.whole.specs.Machine.{Entry, sized}
use Rattle.tables.specs.Cells.{Cell}
use Rattle.rules.specs.Limits.{longest_step}
use Rattle.rules.specs.Reach.{Bed, h0, h1}
use Rattle.reach.specs.Ranges.{UpTo}
use Rattle.stage.specs.declared.rows.FaceRow.{FaceRow}
use Rattle.stage.specs.Rows.{slope_of, thrust, push_of, tilt_of, update_by}
use Rattle.stage.specs.Ranges.{most_square, most_momentum, most_change, most_pressure, Inside, Small, Row, Pressed, most_thrust, most_turn}
use Rattle.stage.specs.Laws.CellSizes.{cell_sizes}

pub wide_pos : (dx : ℤ) → pos 0 <ℤ dx → pos 0 <ℤ (pos 819200 *ℤ dx)
wide_pos dx h = lt! (lit 0) (lit 819200 ⊠ at dx) (omega (arith, of_lt h))

pub slope_size : (a dx dt : ℤ) → UpTo most_change a → UpTo longest_step dt → UpTo most_turn (slope_of a dx dt)
unfolding slope_of
slope_size a dx dt p q = b_quot dx (b_mul (b_mul (b_lit (pos 3)) p) q)

pub thrust_size : (e dx dt : ℤ) → UpTo most_pressure e → pos 0 <ℤ dx → UpTo longest_step dt → UpTo most_thrust (thrust e dx dt)
unfolding thrust
thrust_size e dx dt p h q =
    b_quot_ge 819199 (b_mul (b_mul (b_lit (pos 981)) p) q) (le! (lit 819200) (lit 819200 ⊠ at dx) (omega (arith, of_lt h)))

module _ {m s zl zr kl kr : ℤ} (p : Pressed m s zl zr kl kr) where
  -- the six, in their order
  abbrev pub six : List Entry
  six =
      sized p.mean tt ∷ sized p.slope tt ∷ sized p.zl_in tt ∷ sized p.zr_in tt ∷ sized p.kl_in tt ∷ sized p.kr_in tt ∷ []

  pub push_size : UpTo most_pressure (push_of m s zl zr kl kr)
  unfolding push_of
  push_size =
      let depths = b_add (b_add p.mean p.slope) (b_sub p.mean p.slope) in
      b_up 2000000000000 (b_sub (b_sub p.kl_in p.kr_in) (b_mul depths (b_sub p.zr_in p.zl_in))) tt

  pub tilt_size : UpTo most_pressure (tilt_of m s zl zr kl kr)
  unfolding tilt_of
  tilt_size =
      let faces = b_add (b_mul (b_lit (pos 3)) p.kr_in) (b_mul (b_lit (pos 3)) p.kl_in) in
      let means = b_mul (b_lit (pos 6)) (b_mul p.mean p.mean) in let slopes = b_mul (b_lit (pos 2)) (b_mul p.slope p.slope) in
      b_up 2000000000000 (b_add (b_sub (b_sub faces means) slopes)
      (b_mul (b_lit (pos 4)) (b_mul p.slope (b_quot_by (pos 2) (b_sub p.zr_in p.zl_in))))) tt

module _ {b : Bed} {x : Cell} (i : Inside b x) where
  pub pressed : {kl kr : ℤ} → UpTo most_square kl → UpTo most_square kr → Pressed (h0 b x) (h1 b x) b.zl b.zr kl kr
  pressed p q =
      let k = cell_sizes i in
      record {
        mean = b_nonneg k.mean k.mean_most;
        slope = k.slope;
        zl_in = i.grounded.zl;
        zr_in = i.grounded.zr;
        kl_in = p;
        kr_in = q;
      }

  -- so no stage leaves a cell larger than finishing can take
  pub update_small : (dx dt : ℤ) (l f : FaceRow) (g : ℤ) → pos 0 <ℤ dx → UpTo longest_step dt → Row l → Row f → UpTo most_momentum g
      → Small (update_by dx dt b x l f g)
  unfolding update_by slope_of thrust
  update_small dx dt l f g h t p q w =
      let c = cell_sizes i in let two = b_lit (pos 2) in
      let k = pressed p.K q.K in let e = thrust_size _ dx dt (push_size k) h t in let d = thrust_size _ dx dt (tilt_size k) h t in
      record {
        e0 = b_up 2199023255552 (b_sub (b_add c.e0 p.vol) q.vol) tt;
        e1 = b_up 2199023255552
            (b_sub c.e1 (b_quot dx (b_mul (b_mul (b_lit (pos 3)) (b_sub (b_add q.F p.F) (b_mul two c.q0))) t))) tt;
        q0 = b_up 70368744177664 (b_add (b_add c.q0 (b_quot dx (b_mul (b_sub p.A q.A) t))) e) tt;
        q1 = b_up 70368744177664 (b_sub (b_sub c.q1 (slope_size _ dx dt (b_up 4365877248 (b_sub (b_add q.A p.A) w) tt) t)) d) tt;
      }
