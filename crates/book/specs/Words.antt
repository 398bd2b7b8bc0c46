-- To be believed. The words for a refusal, by its number. Assumes nothing.
use Rattle.std.specs.Prelude.{ℕ, cond, List, [], eqb}
use Rattle.hl7.specs.Text.{bytes}

-- of those that look at a whole section, or at all that is made
unfoldable pub last_words : ℕ → List ℕ
last_words n =
    cond (eqb n 50) (bytes "the section has over 256 rules")
    (cond (eqb n 51) (bytes "the section holds over 64 sets")
    (cond (eqb n 52) (bytes "the section does not hold this set")
    (cond (eqb n 53) (bytes "the set has no code, or over 1,024")
    (cond (eqb n 54) (bytes "the book has over 65,536 bytes, counted up to this section")
    (cond (eqb n 55) (bytes "what is to be printed has over 4,194,304 bytes")
    (cond (eqb n 56) (bytes "the section has over 2,048 statements, with those it takes over") []))))))

-- of those that look at other statements
unfoldable pub later_words : ℕ → List ℕ
later_words n =
    cond (eqb n 43) (bytes "an earlier one has this name or key")
    (cond (eqb n 44) (bytes "there are no sections, or over 64")
    (cond (eqb n 45) (bytes "it names a set or common that there is not")
    (cond (eqb n 46) (bytes "the section has used this common before")
    (cond (eqb n 47) (bytes "the section has a rule of this place and kind: write also for a further one")
    (cond (eqb n 48) (bytes "the section has no rule of this place and kind")
    (cond (eqb n 49) (bytes "a code that more adds is there, or one that less takes is not") (last_words n)))))))

unfoldable pub words_for : ℕ → List ℕ
words_for n =
    cond (eqb n 31) (bytes "the text has over 1,048,576 bytes")
    (cond (eqb n 32) (bytes "a byte that is not allowed: only ASCII signs, blanks, tabs and line ends are")
    (cond (eqb n 33) (bytes "the first word is no statement's name")
    (cond (eqb n 34) (bytes "this statement may not stand here")
    (cond (eqb n 35) (bytes "too few or too many words")
    (cond (eqb n 36) (bytes "the version is not 1")
    (cond (eqb n 37) (bytes "not a key: 1 to 20 signs, none of | ^ ~ \\ &")
    (cond (eqb n 38) (bytes "not a code: 1 to 20 signs, none of | ^ ~ \\ &")
    (cond (eqb n 39) (bytes "not a place: SEGMENT-FIELD or SEGMENT-FIELD.COMPONENT")
    (cond (eqb n 40) (bytes "not a kind: REQUIRED, LENGTH, NUMBER, DATE, TIME or CODE")
    (cond (eqb n 41) (bytes "not a severity: E, W or I")
    (cond (eqb n 42) (bytes "the bound does not fit the kind") (later_words n))))))))))))
