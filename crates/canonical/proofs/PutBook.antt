-- Laws of writing a whole book: its sections, the text before them, and what showing it answers. Assumes nothing.
use mathlib.Core.Path.{◌≡◌, refl, sym, ap, ap₂, ◌∙◌}
use mathlib.Core.Bool.{Bool, true, false, cond}
use mathlib.Core.List.{List, [], ◌∷◌, ◌++◌, map}
use Prim.Native.Nat.{ℕ, ◌+◌, ◌≤◌, ◌<◌}
use native.Mathlib.Omega.{arith}
use lib.ListN.{length, get_or, take, drop}
use Rattle.hl7.specs.Text.{bytes}
use Rattle.hl7.specs.Bytes.{all}
use Rattle.hl7.specs.Refusals.{Told as RowTold, told as row_told, first_row}
use Rattle.hl7.proofs.Comparing.{from_step, from_done}
use Rattle.grade.specs.declared.rule.Rule.{Rule}
use Rattle.grade.specs.declared.walk.Section.{Section}
use Rattle.grade.specs.Admission.{Indexed, indexed_told}
use Rattle.grade.specs.Book.{Contents, decoded, malformed, other_version}
use Rattle.grade.specs.Standing.{text_at, TextFits, stands_at, contents_at, site_at, rules_in, sets_in, Holds, Indexes}
use Rattle.grade.proofs.Encoded.{Bytes}
use Rattle.grade.proofs.Indexing.{index_says, index_stand}
use Rattle.grade.proofs.Opening.{held}
use Rattle.grade.proofs.Parts.{stands_parts, stands-key}
use Rattle.ack.specs.Layout.{joined, marked}
use Rattle.ack.specs.Splice.{Wrote, limit}
use Rattle.ack.specs.Output.{Adds}
use Rattle.ack.specs.declared.output.Output.{Output}
use Rattle.ack.proofs.Writing.{wrote_as}
use Rattle.ack.proofs.Adding.{◌next◌, adds_as}
use Rattle.booktext.specs.Faults.{Told, tell, nothing}
use Rattle.booktext.specs.Lines.{line_feed}
use Rattle.booktext.specs.Refusals.{unless_refused, written}
use Rattle.booktext.proofs.Answering.{measured_short, measured_done}
use Rattle.canonical.specs.Shown.{line_bytes, printed, set_lines, pin_lines, rule_lines, section_lines, book_lines, shown, show_of}
use Rattle.canonical.specs.Showing.{pin_bytes}
use Rattle.canonical.proofs.Printing.{printed_both}
use Rattle.canonical.proofs.PutSets.{two_written, sets-length, pin_printed}
use Rattle.canonical.proofs.ShownAgain.{again_short}
use Rattle.std.specs.Prelude.{Ok}

-- ---- a section
section_lines_lem : (c : Contents)
    → printed (set_lines c.key 1 c.sets) ++ (line_bytes (bytes "section" ∷ c.key ∷ []) ++ (printed (pin_lines c.key c.sets) ++ printed (rule_lines c.key [] c.rules))) ≡ printed (section_lines c)
unfolding section_lines printed
section_lines_lem c =
    let pins = pin_lines c.key c.sets in
    let rules = rule_lines c.key [] c.rules in
    let line = bytes "section" ∷ c.key ∷ [] in
    let sets = set_lines c.key 1 c.sets in
    sym (printed_both sets (line ∷ (pins ++ rules)) ∙ ap (λ (l : List ℕ). printed sets ++ (line_bytes line ++ l)) (printed_both pins rules))

module _ (b : List ℕ) (start : ℕ) (stands : stands_at b start ≡ true) where
  pub section-key : TextFits b start
  section-key = (stands-key b start stands).0

  module _ {s : Section} (is : s ≡ site_at b start) where
    pub itself : ((contents_at b start).rules ≡ rules_in b s) × ((contents_at b start).sets ≡ sets_in b s) × Holds b s
    itself = let parts = stands_parts b start stands in rw is (held b start (site_at b start) (contents_at b start) parts.0 parts.1)

    pub section-holds : Holds b s
    section-holds = itself.2

    pub section-written : {key : List ℕ} {count : ℕ} → key ≡ text_at b start → count ≡ s.set_count → {o p q r t u v : Output}
        → Adds o (printed (set_lines key 1 (sets_in b s))) p → Adds p (bytes "section ") q → Adds q key r → Adds r (line_feed ∷ []) t
        → Adds t (pin_bytes key count) u → Adds u (printed (rule_lines key [] (rules_in b s))) v
        → Adds o (printed (section_lines (contents_at b start))) v
    section-written {key} {count} ek en sets-put first-put key-put feed-put pin-put rules-put =
        let c = contents_at b start in
        let named : key ≡ c.key = ek ∙ sym (stands-key b start stands).1 in
        let sets : sets_in b s ≡ c.sets = sym itself.1 in
        let rules : rules_in b s ≡ c.rules = sym itself.0 in
        let many : length c.sets ≡ count = ap length itself.1 ∙ sets-length b s section-holds ∙ sym en in
        adds_as
        (adds_as sets-put (ap₂ (λ (k : List ℕ) (l : List (List (List ℕ))). printed (set_lines k 1 l)) named sets)
        next two_written (bytes "section") named first-put key-put feed-put
        next adds_as pin-put (ap (λ (k : List ℕ). pin_bytes k count) named ∙ pin_printed c.key c.sets many)
        next adds_as rules-put (ap₂ (λ (k : List ℕ) (l : List Rule). printed (rule_lines k [] l)) named rules))
        (section_lines_lem c)

-- ---- sections, one after the other
module _ (b starts : List ℕ) (i : ℕ) where
  -- those that start at the positions from i on
  abbrev pub sections_from : List ℕ
  sections_from = printed (book_lines (map (contents_at b) (drop i starts)))

  pub sections_more : i < length starts → sections_from ≡ printed (section_lines (contents_at b (get_or starts i 0))) ++ printed (book_lines (map (contents_at b) (drop (i + 1) starts)))
  unfolding book_lines
  sections_more h =
      ap (λ (cs : List Contents). printed (book_lines cs)) (from_step (contents_at b) starts i h)
      ∙ printed_both (section_lines (contents_at b (get_or starts i 0))) (book_lines (map (contents_at b) (drop (i + 1) starts)))

  pub sections-over : length starts ≤ i → sections_from ≡ []
  unfolding book_lines printed
  sections-over h = ap (λ (cs : List Contents). printed (book_lines cs)) (from_done (contents_at b) starts i h)

pub shown-written : (cs : List Contents) {o p q : Output} → Adds o (bytes "book 1\n") p → Adds p (printed (book_lines cs)) q → Adds o (shown cs) q
unfolding shown printed joined marked
shown-written cs u v = u next v

-- ---- what is answered
module _ (b : List ℕ) (is : Bytes b) (formed : malformed b ≡ false) (version : other_version b ≡ false) {cs : List Contents} (say : decoded b ≡ cs) where
  shown-short : length (shown (decoded b)) < limit
  shown-short = omega (arith, again_short b is formed version)

  as_decoded : {o p : List ℕ} {at end : ℕ} → Wrote o at (shown cs) p end → Wrote o at (shown (decoded b)) p end
  as_decoded w = wrote_as w (ap shown (sym say))

  module _ (out : List ℕ) {p : List ℕ} {size : ℕ} (w : Wrote [] 0 (shown cs) p size) where
    pub shown-long : {told : Told} → length (p ++ out) < size → told ≡ tell 55 size 0 → (told ≡ (written (shown (decoded b)) out).told) × (p ++ out ≡ (written (shown (decoded b)) out).output)
    shown-long h e = measured_short (shown (decoded b)) shown-short out (as_decoded w) h e

    pub shown_put : {told : Told} → size ≤ length (p ++ out) → {after : List ℕ} {end : ℕ} → Wrote (p ++ out) 0 (shown cs) after end → told ≡ tell 0 size 0
        → (told ≡ (written (shown (decoded b)) out).told) × (after ≡ (written (shown (decoded b)) out).output)
    shown_put h v e = measured_done (shown (decoded b)) shown-short out (as_decoded w) h e (as_decoded v)

-- a book, by what `index_book` answers
abbrev row_of : Bool → Bool → RowTold
row_of m v = cond m (row_told 7 0) (cond v (row_told 8 0) (row_told 0 0))

module _ (b starts : List ℕ) {r : Indexed} (is : Indexes b starts r) where
  number_is : {q : Indexed} → r ≡ q → (indexed_told q).number ≡ (row_of (malformed b) (other_version b)).number
  unfolding first_row
  number_is at = sym (ap (λ (x : Indexed). (indexed_told x).number) at) ∙ ap (λ (t : RowTold). t.number) is.told_is

  pub show_refused : (out : List ℕ) {told : Told} {q : Indexed} → r ≡ q → ((indexed_told q).number ≡ 0 → ⊥) → told ≡ tell (indexed_told q).number 0 0 → (told ≡ (show_of b out).told) × (out ≡ (show_of b out).output)
  unfolding show_of
  show_refused out {told} {q} at some e = by (malformed b) (other_version b) (number_is at)
    where
      by : (m v : Bool) → (indexed_told q).number ≡ (row_of m v).number
          → (told ≡ (unless_refused (cond m (tell 7 0 0) (cond v (tell 8 0 0) nothing)) (shown (decoded b)) out).told) × (out ≡ (unless_refused (cond m (tell 7 0 0) (cond v (tell 8 0 0) nothing)) (shown (decoded b)) out).output)
      by true v n = (e ∙ ap (λ (k : ℕ). tell k 0 0) n, refl)
      by false true n = (e ∙ ap (λ (k : ℕ). tell k 0 0) n, refl)
      by false false n = absurd (some n)

  module _ {count : ℕ} (of : r ≡ Ok count) where
    accepted : (malformed b ≡ false) × (other_version b ≡ false)
    accepted = by (malformed b) (other_version b) (number_is of)
      where
        by : (m v : Bool) → 0 ≡ (row_of m v).number → (m ≡ false) × (v ≡ false)
        by true v n = absurd (omega arith)
        by false true n = absurd (omega arith)
        by false false n = (refl, refl)

    pub book-listed : (all (stands_at b) (take count starts) ≡ true) × (decoded b ≡ map (contents_at b) (take count starts)) × (malformed b ≡ false) × (other_version b ≡ false)
    book-listed = (
      index_stand b starts is of,
      index_says b starts is of,
      accepted.0,
      accepted.1,
    )

    pub show_written : (out : List ℕ) {told : Told} {after : List ℕ} → (told ≡ (written (shown (decoded b)) out).told) × (after ≡ (written (shown (decoded b)) out).output) → (told ≡ (show_of b out).told) × (after ≡ (show_of b out).output)
    unfolding show_of
    show_written out w = rw (accepted.0, accepted.1) w
