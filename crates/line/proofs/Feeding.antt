-- Laws of `specs/Fed.antt`: what is kept of the input is kept right by each byte, and tells what the line says. Assumes nothing.
use mathlib.Core.Path.{◌≡◌, refl, sym, ap, ap₂, ◌∙◌}
use mathlib.Core.Bool.{Bool, true, false, cond, ◌&&◌}
use mathlib.Core.List.{List, [], ◌∷◌, ◌++◌, append-nil, append_assoc}
use Prim.Native.Nat.{ℕ, ◌+◌, ◌≤◌, ◌<◌, min}
use native.Mathlib.Numerals.{add-one}
use native.Mathlib.Omega.{arith}
use lib.Dec.{leb, ltb}
use lib.ListN.{length, get_or, take, set, length-append, length-set}
use lib.Seq.{take_all, take-take, take-suc, take-append-le, take-suc-set}
use borrow.Author.Tests.{ltb-true, ltb-false, lt-ltb, le-ltb, le-leb, lt-leb, ne_eqb}
use Rattle.std.proofs.Common.{Some, None}
use Rattle.hl7.specs.Bytes.{is_digit, all}
use Rattle.hl7.specs.Number.{value_after, value_of}
use Rattle.hl7.specs.Counted.{too_large, with_digit}
use Rattle.hl7.specs.Cut.{cut}
use Rattle.hl7.proofs.Comparing.{and_both, all_last}
use Rattle.hl7.proofs.Numbering.{value_more}
use Rattle.hl7.proofs.Cutting.{cut_delimiter, cut_other, cut_last}
use Rattle.line.specs.Line.{line_feed, space, line_of, occurs, before_last, after_last, stamp_of, last_item, largest_control, is_control, bad_line, good_line, said}
use Rattle.line.specs.Fed.{head_length, Heads, Items, Fed, shortened}
use Rattle.line.specs.declared.kept.Head.{Head}
use Rattle.line.specs.declared.kept.Item.{Item}
use Rattle.line.specs.declared.kept.State.{State}
use Rattle.line.proofs.Lines.{before-front, before-within, has_delimiter, before_delimiter, after_delimiter, has_other, before_other, after_other, first_ended, first_open, take_counted}

-- ---- the first bytes of the line
module _ {line : List ℕ} {h : Head} (a : Heads line h) (x : ℕ) where
  pub heads_more : h.count < head_length → Heads (line ++ (x ∷ [])) (record { bytes = set h.bytes h.count x; count = h.count + 1 })
  heads_more l =
      let long : length (line ++ (x ∷ [])) ≡ length line + 1 = length-append line (x ∷ []) in
      let all_of : h.count ≡ length line = omega (arith, a.count) in
      record {
        room = length-set h.bytes h.count x ∙ a.room;
        count = omega arith;
        holds =
            rw (add-one h.count, take-suc-set h.bytes h.count x (omega (arith, a.room)), a.holds, take_all head_length line (omega arith))
            (sym (take_all head_length (line ++ (x ∷ [])) (omega arith)));
      }

  pub heads_full : head_length ≤ h.count → Heads (line ++ (x ∷ [])) h
  heads_full l =
      let long : length (line ++ (x ∷ [])) ≡ length line + 1 = length-append line (x ∷ []) in
      let full : head_length ≤ length line = omega (arith, a.count) in
      record {
        room = a.room;
        count = omega (arith, a.count);
        holds = a.holds ∙ sym (take-append-le head_length line (x ∷ []) full);
      }

-- ---- what is there only if a test holds
is_there : (b : Bool) (x : ℕ) {y : ℕ} → Some y ≡ cond b (Some x) None → (b ≡ true) × (y ≡ x)
is_there true x e = (refl, cc)
is_there false x e = let z : ◌≡◌ {A = ℕ} 0 1 = cc in absurd (omega arith)

is-missing : (b : Bool) (x : ℕ) → None ≡ cond b (Some x) None → b ≡ false
is-missing true x e = let z : ◌≡◌ {A = ℕ} 0 1 = cc in absurd (omega arith)
is-missing false x e = refl

-- ---- the last space
module _ {line : List ℕ} {i : Item} (a : Items line i) where
  pub items_space : {x count value : ℕ} → x ≡ space → count ≡ min (length line) head_length → value ≡ 0 → Items (line ++ (x ∷ [])) (record { stamp = Some count; filled = false; number = record { all = true; value = value } })
  unfolding all value_after
  items_space {x} {count} e k v =
      let none = after_delimiter space x e line in
      record {
        stamp = rw (has_delimiter space x e line, before_delimiter space x e line) (ap Some k);
        filled = rw none;
        digits = rw none;
        value = rw none v;
      }

  pub items_other : {x value : ℕ} {digit : Bool} → (x ≡ space → ⊥) → digit ≡ is_digit x → value ≡ with_digit i.number.value x → Items (line ++ (x ∷ [])) (record { stamp = i.stamp; filled = true; number = record { all = i.number.all && digit; value = value } })
  items_other {x} {value} {digit} n d v =
      let more = after_other space x n line in
      record {
        stamp = rw (has_other space x n line, before_other space x n line) a.stamp;
        filled = rw (more, length-append (last_item line) (x ∷ []), ne_eqb (length (last_item line) + 1) 0 (λ e. omega arith));
        digits = rw (more, all_last is_digit (last_item line) x, ← a.digits, d);
        value = rw more (v ∙ value_more 0 (last_item line) x a.value);
      }

-- ---- the input
pub fed_start : (bytes : List ℕ) → length bytes ≡ head_length → Fed [] (record { ended = false; head = record { bytes = bytes; count = 0 }; item = record { stamp = None; filled = false; number = record { all = true; value = 0 } } })
unfolding cut occurs before_last after_last all value_after
fed_start bytes h =
    record {
      ended = refl;
      head = record { room = h; count = refl; holds = refl };
      item = record { stamp = refl; filled = refl; digits = refl; value = refl };
    }

module _ {input : List ℕ} {s : State} (f : Fed input s) (x : ℕ) where
  one_longer : length (input ++ (x ∷ [])) ≡ length input + 1
  one_longer = length-append input (x ∷ [])

  -- what follows a line feed is not looked at
  pub fed_after : s.ended ≡ true → Fed (input ++ (x ∷ [])) s
  fed_after e =
      let short : length (line_of input) < length input = ltb-true (length (line_of input)) (length input) (sym f.ended ∙ e) in
      let same = first_ended line_feed input (x ∷ []) short in
      record {
        ended = rw (same, one_longer) (e ∙ sym (lt-ltb (length (line_of input)) (length input + 1) (omega arith)));
        head = rw same f.head;
        item = rw same f.item;
      }

  module _ (e : s.ended ≡ false) where
    open_line : length input ≤ length (line_of input)
    open_line = ltb-false (length (line_of input)) (length input) (sym f.ended ∙ e)

    all-line : line_of input ≡ input
    all-line = ap (λ (ps : List (List ℕ)). get_or ps 0 []) (cut_last line_feed input open_line)

    pub fed_feed : x ≡ line_feed → Fed (input ++ (x ∷ [])) (record { ended = true; head = s.head; item = s.item })
    fed_feed l =
        let same : line_of (input ++ (x ∷ [])) ≡ line_of input = first_open line_feed input (x ∷ []) open_line ∙ ap (λ (ps : List (List ℕ)). input ++ get_or ps 0 []) (cut_delimiter line_feed x [] l) ∙ append-nil input ∙ sym all-line in
        record {
          ended = rw (same, all-line, one_longer) (sym (lt-ltb (length input) (length input + 1) (omega arith)));
          head = rw same f.head;
          item = rw same f.item;
        }

    pub fed_more : {head : Head} {item : Item} → (x ≡ line_feed → ⊥) → Heads (line_of input ++ (x ∷ [])) head → Items (line_of input ++ (x ∷ [])) item → Fed (input ++ (x ∷ [])) (record { ended = false; head = head; item = item })
    unfolding cut
    fed_more {head} {item} n h i =
        let more : line_of (input ++ (x ∷ [])) ≡ line_of input ++ (x ∷ []) = first_open line_feed input (x ∷ []) open_line ∙ ap (λ (ps : List (List ℕ)). input ++ get_or ps 0 []) (cut_other line_feed x [] n) ∙ ap (λ (l : List ℕ). l ++ (x ∷ [])) (sym all-line) in
        record {
          ended = rw (more, all-line) (sym (le-ltb (length (input ++ (x ∷ []))) (length (input ++ (x ∷ []))) (omega arith)));
          head = rw more h;
          item = rw more i;
        }

-- ---- what the line says
-- the kept bytes before the last space are the stamp, or too many
stamp-kept : {line : List ℕ} {h : Head} {k : ℕ} → Heads line h → k ≡ min (length (stamp_of line)) head_length → take k h.bytes ≡ take head_length (stamp_of line)
stamp-kept {line} {h} {k} a e =
    let n = min (length (stamp_of line)) head_length in
    let inside = before-within space line in
    rw (e, ← take-take n h.count h.bytes (omega (arith, a.count)), a.holds, take-take n head_length line (omega arith))
    (sym (take-take n (length (stamp_of line)) line (omega arith)) ∙ ap (take n) (sym (before-front space line)) ∙ take_counted head_length (stamp_of line))

module _ {input : List ℕ} {s : State} (f : Fed input s) where
  abbrev item : List ℕ
  item = last_item (line_of input)

  pub said_unspaced : s.item.stamp ≡ None → bad_line ≡ shortened (said (line_of input))
  unfolding said
  said_unspaced e = rw (is-missing (occurs space (line_of input)) _ (sym e ∙ f.item.stamp))

  module _ {stamp : ℕ} (k : s.item.stamp ≡ Some stamp) {t : Bool} (e : (s.item.filled && s.item.number.all && ltb s.item.number.value too_large) ≡ t) where
    spaced : (occurs space (line_of input) ≡ true) × (stamp ≡ min (length (stamp_of (line_of input))) head_length)
    spaced = is_there (occurs space (line_of input)) _ (sym k ∙ f.item.stamp)

    small : (b : Bool) → ltb s.item.number.value too_large ≡ b → leb (value_of item) largest_control ≡ b
    small true h = le-leb (value_of item) largest_control (omega (arith, f.item.value, ltb-true s.item.number.value too_large h))
    small false h = lt-leb (value_of item) largest_control (omega (arith, f.item.value, ltb-false s.item.number.value too_large h))

    said-by : said (line_of input) ≡ cond t (good_line (stamp_of (line_of input)) (value_of item)) bad_line
    unfolding said is_control
    said-by = rw (spaced.0, small _ refl, ← f.item.filled, ← f.item.digits, e)

    pub said_bad : t ≡ false → bad_line ≡ shortened (said (line_of input))
    said_bad h = sym (ap shortened (rw h at said-by))

    pub said_good : t ≡ true → good_line (take stamp s.head.bytes) s.item.number.value ≡ shortened (said (line_of input))
    said_good h =
        let fits : s.item.number.value < too_large = ltb-true s.item.number.value too_large (and_both (s.item.filled && s.item.number.all) (ltb s.item.number.value too_large) (e ∙ h)).1 in
        ap₂ good_line (stamp-kept f.head spaced.1) (omega (arith, f.item.value)) ∙ sym (ap shortened (rw h at said-by))

-- ---- a chunk of the input, byte by byte
pub feeds_none : {s : State} (input : List ℕ) → Fed input s → Fed (input ++ []) s
feeds_none input f = rw (append-nil input) f

module _ {before after : State} (chunk : List ℕ) where
  pub feeds_more : {next : State} (i : ℕ) → i < length chunk → ((input : List ℕ) → Fed input before → Fed (input ++ take i chunk) after) → ((input : List ℕ) → Fed input after → Fed (input ++ (get_or chunk i 0 ∷ [])) next) → (input : List ℕ) → Fed input before → Fed (input ++ take (i + 1) chunk) next
  feeds_more i h k step input f =
      rw (add-one i, take-suc chunk i 0 h, ← append_assoc input (take i chunk) (get_or chunk i 0 ∷ [])) (step (input ++ take i chunk) (k input f))

  pub feeds_all : {i : ℕ} → length chunk ≤ i → ((input : List ℕ) → Fed input before → Fed (input ++ take i chunk) after) → (input : List ℕ) → Fed input before → Fed (input ++ chunk) after
  feeds_all {i} h k input f = rw (take_all i chunk h) at (k input f)
