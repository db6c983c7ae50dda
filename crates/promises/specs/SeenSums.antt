-- To be believed. What a caller sees of the water between two faces: sums made of a state, answers, and calls that keep the sums.
use Rattle.std.specs.Prelude.{◌≡◌, List, ℕ, ◌+◌, ◌-◌, length, ℤ, pos, ◌+ℤ◌}
use Rattle.rules.specs.Lent.{Lent}
use Rattle.rules.specs.Sums.{Reading, making_of, answered}
use Rattle.reach.specs.Refusals.{told_number}
use Rattle.step.specs.Gives.{Answer, code, volumes, both}
use Rattle.sums.specs.Gives.{Made, Amount, MakingGives, asked, KeepingGives}
use Rattle.editor.specs.Told.{KeepingTold}
use Rattle.promises.specs.Seen.{at, mean_depth, total, Besides, lending}

-- the water of cells a to b - 1: the sum of their mean depths
unfoldable pub water_between : List ℤ → List ℤ → ℕ → ℕ → ℕ → ℤ
water_between bed t n a b = total (λ i. mean_depth bed t n (a + i)) (b - a)

-- sums that are those of the state t over its bed: `make` left them there, or an accepted step that wrote t
pub data MadeFrom (bed t : List ℤ) : List ℤ → Type 0 where
  by_making : (a : Made) (old sums : List ℤ) → MakingGives (making_of bed t (length old)) a old sums → told_number a ≡ 0
      → MadeFrom bed t sums
  by_step : (l : Lent) (a : Answer) (old was sums : List ℤ) → l.bed ≡ bed → KeepingGives l a old t was sums → code a ≡ 0
      → MadeFrom bed t sums

-- the question was answered, and with this water
pub record Answers (r : Amount) (w : ℤ) : Type 0 where
  pub read : Reading
  pub told : asked r ≡ answered read
  pub water : read.water ≡ w

-- any number of accepted calls that keep the sums, each lent what the one before wrote: u are the sums before them and z those after; w and
-- v are the volumes of an accepted one, a and b the sums of W at face 0 and at face n
pub record CalledKeeping (bed : List ℤ) (n dx : ℕ) (now : List ℤ) (x : Answer) (old new was sums : List ℤ) : Type 0 where
  pub given : Besides n
  pub gave : KeepingGives (lending bed dx now (length old) given) x old new was sums

pub data CallsKeeping (bed : List ℤ) (n dx : ℕ) : List ℤ → List ℤ → List ℤ → List ℤ → ℤ → ℤ → Type 0 where
  none_kept : (t z : List ℤ) → CallsKeeping bed n dx t t z z (pos 0) (pos 0)
  more_kept : (s m t u y z old : List ℤ) (x : Answer) (w v a b : ℤ) → volumes x ≡ both w v → CalledKeeping bed n dx s x old m u y
      → CallsKeeping bed n dx m t y z a b → CallsKeeping bed n dx s t u z (w +ℤ a) (v +ℤ b)

-- the same of `bassoonsun_step_sums`, of calls that gave 0: vs and ps are the two volumes and the place before a call, vs' and ps' after it
pub record KeepingFromC (bed : List ℤ) (n dx : ℕ) (now : List ℤ) (r : ℕ) (old new was sums vs vs' : List ℤ) (ps ps' : List ℕ) : Type 0 where
  pub given : Besides n
  pub told : KeepingTold (lending bed dx now (length old) given) r old new was sums vs vs' ps ps'

pub data CallsKeepingFromC (bed : List ℤ) (n dx : ℕ) : List ℤ → List ℤ → List ℤ → List ℤ → ℤ → ℤ → Type 0 where
  none_c : (t z : List ℤ) → CallsKeepingFromC bed n dx t t z z (pos 0) (pos 0)
  more_c : (s m t u y z old vs vs' : List ℤ) (ps ps' : List ℕ) (a b : ℤ) → length vs ≡ 2
      → KeepingFromC bed n dx s 0 old m u y vs vs' ps ps' → CallsKeepingFromC bed n dx m t y z a b
      → CallsKeepingFromC bed n dx s t u z (at vs' 0 +ℤ a) (at vs' 1 +ℤ b)
