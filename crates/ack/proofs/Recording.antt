-- What the loop over records keeps: what is left to weigh completes the whole. Assumes nothing.
use mathlib.Core.Path.{◌≡◌, ap}
use Prim.Native.Nat.{ℕ, ◌+◌, ◌<◌, ◌≤◌}
use native.Mathlib.Numerals.{add-one}
use mathlib.Core.List.{List, ◌∷◌}
use lib.ListN.{length, get_or, drop, drop_of_length-le}
use lib.Seq.{drop-cons}
use Rattle.grade.specs.declared.finding.Finding.{Finding}
use Rattle.ack.specs.Records.{blank}
use Rattle.ack.specs.Weights.{weighed_by, weigh_all}
use Rattle.ack.specs.declared.write.Weight.{Weight}

next_at : (xs : List Finding) (i : ℕ) → i < length xs → drop i xs ≡ get_or xs i blank ∷ drop (i + 1) xs
next_at xs i less = rw (add-one, drop-cons xs i blank)

module _ (xs : List Finding) (i : ℕ) (w : Weight) where
  -- one record more
  pub weigh_one : i < length xs → weigh_all w (drop i xs) ≡ weigh_all (weighed_by w (get_or xs i blank)) (drop (i + 1) xs)
  unfolding weigh_all
  weigh_one less = ap (weigh_all w) (next_at xs i less)

  -- none is left
  pub weigh_none : length xs ≤ i → weigh_all w (drop i xs) ≡ w
  unfolding weigh_all
  weigh_none e = ap (weigh_all w) (drop_of_length-le xs e)
