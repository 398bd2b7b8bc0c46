-- To be believed. What the program prints. Assumes nothing.
use Rattle.std.specs.Prelude.{ℕ, cond, List, [], ◌++◌, eqb, length, take}
use Rattle.hl7.specs.Text.{bytes}
use Rattle.ack.specs.Decimal.{decimal}
use Rattle.booktext.specs.Faults.{Told}
use Rattle.book.specs.Counts.{sections_in, rule_total, set_total}
use Rattle.book.specs.Words.{words_for}

-- ---- a refusal
-- a word, and a line's number after it; a line that there is not is 0, and is not printed
unfoldable pub line_text : (word : List ℕ) → ℕ → List ℕ
line_text word line = cond (eqb line 0) [] (word ++ (bytes " " ++ decimal line))

-- number, the statement's line, the section's line, the words for the number
unfoldable pub refused_text : (number line section : ℕ) → List ℕ
refused_text number line section =
    bytes "refused " ++ (decimal number ++ (line_text (bytes " line") line ++ (line_text (bytes " section") section ++ (bytes ": " ++ (words_for number ++ bytes "\n")))))

-- why a source is refused, or what is to be printed is too long: the detail of 55 is a length and no line
unfoldable pub source_refused_text : Told → List ℕ
source_refused_text t = refused_text t.number (cond (eqb t.number 55) 0 t.detail) t.section

-- ---- what was made
-- with number 0 it is the output's first bytes, as many as the detail says
abbrev pub made : Told → (output : List ℕ) → List ℕ
made t output = take t.detail output

unfoldable pub compiled_text : (size sections rules sets : ℕ) → List ℕ
compiled_text size sections rules sets =
    bytes "compiled " ++ (decimal size ++ (bytes " bytes, " ++ (decimal sections ++ (bytes " sections, " ++ (decimal rules ++ (bytes " rules, " ++ (decimal sets ++ bytes " sets\n")))))))

-- by what compiling told, and the output afterwards: what the book holds
unfoldable pub told_text : Told → (output : List ℕ) → List ℕ
told_text t output =
    cond (eqb t.number 0)
    (compiled_text t.detail (length (sections_in (made t output))) (rule_total (sections_in (made t output))) (set_total (sections_in (made t output))))
    (source_refused_text t)

-- which says which book it is, where there are two
unfoldable pub book_refused_text : ℕ → (which : List ℕ) → List ℕ
book_refused_text number which = bytes "book refused " ++ (decimal number ++ (which ++ bytes "\n"))

-- by what showing a book told, and the output afterwards: the text itself
unfoldable pub shown_text : Told → (output : List ℕ) → List ℕ
shown_text t output = cond (eqb t.number 0) (made t output) (book_refused_text t.number [])

-- by what asking for a legend told, and the output afterwards: the legend itself
unfoldable pub legend_text : Told → (output : List ℕ) → List ℕ
legend_text t output = cond (eqb t.number 0) (made t output) (source_refused_text t)

-- by what comparing two books told, and the output afterwards: the lines themselves, or that there is no room for them, or which book is refused
unfoldable pub diff_text : Told → (output : List ℕ) → List ℕ
diff_text t output =
    cond (eqb t.number 0) (made t output)
    (cond (eqb t.number 55) (source_refused_text t) (book_refused_text t.number (cond (eqb t.detail 1) (bytes " old") (bytes " new"))))

-- ---- files, and the command line
-- a file that cannot be read, or written
unfoldable pub file_text : (what path : List ℕ) → List ℕ
file_text what path = bytes "file cannot be " ++ (what ++ (bytes ": " ++ (path ++ bytes "\n")))

abbrev pub usage_text : List ℕ
usage_text = bytes "usage: book compile SOURCE BOOK | check SOURCE | show BOOK | legend SOURCE | diff OLD NEW\n"
