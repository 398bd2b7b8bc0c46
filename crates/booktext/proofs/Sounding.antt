-- What `sound` says, part by part. Assumes nothing.
use mathlib.Core.Path.{◌≡◌}
use mathlib.Core.Bool.{true, ◌&&◌}
use Prim.Native.Nat.{suc}
use lib.ListN.{length}
use Rattle.hl7.proofs.Comparing.{and_both}
use Rattle.booktext.specs.Lines.{Statement, word, verb}
use Rattle.booktext.specs.Faults.{count_right, key_right, codes_right, place_right, kind_right, severity_right, before_bound, bound_right}
use Rattle.booktext.specs.Standing.{sound}

pub record Sounds (s : Statement) : Type 0 where
  pub count : count_right (verb s) (length s.words) ≡ true
  pub key : key_right (verb s) (word s 1) ≡ true
  pub codes : codes_right (verb s) s.words ≡ true
  pub place : place_right (verb s) (word s 1) ≡ true
  pub kind : kind_right (verb s) (word s 2) ≡ true
  pub severity : severity_right (verb s) (length s.words) (word s 2) (word s 3) ≡ true
  pub bound : bound_right (verb s) (length s.words) (word s 2) (word s (before_bound (verb s))) (word s (suc (before_bound (verb s)))) ≡ true

pub sounds : (s : Statement) → sound s ≡ true → Sounds s
unfolding sound
sounds s h =
    let one = count_right (verb s) (length s.words) in
    let two = one && key_right (verb s) (word s 1) in
    let three = two && codes_right (verb s) s.words in
    let four = three && place_right (verb s) (word s 1) in
    let five = four && kind_right (verb s) (word s 2) in
    let six = five && severity_right (verb s) (length s.words) (word s 2) (word s 3) in
    let f = and_both six (bound_right (verb s) (length s.words) (word s 2) (word s (before_bound (verb s))) (word s (suc (before_bound (verb s))))) h in
    let e = and_both five (severity_right (verb s) (length s.words) (word s 2) (word s 3)) f.0 in
    let d = and_both four (kind_right (verb s) (word s 2)) e.0 in
    let c = and_both three (place_right (verb s) (word s 1)) d.0 in
    let b = and_both two (codes_right (verb s) s.words) c.0 in
    let a = and_both one (key_right (verb s) (word s 1)) b.0 in
    record { count = a.0; key = a.1; codes = b.1; place = c.1; kind = d.1; severity = e.1; bound = f.1 }
