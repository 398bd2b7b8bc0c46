-- `booktext::compile::make_book` meets its contract. Assumes nothing.
use Rattle.booktext.proofs.Compiling.{book-made}
use Rattle.booktext.proofs.compile.make_book.Goals as goal

pub returns : goal.returns
returns c = book-made c.args.t.now c.requires.3 c.put-second.ensures c.put_two-third.ensures c.put_byte-fourth.ensures c.make_sections.ensures
