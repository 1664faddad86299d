-- `find` meets its contract. Assumes nothing.
use Rattle.decoder.proofs.BookLaws.{finds}
use Rattle.decoder.proofs.book.Book.find.Goals as goal

pub returns : goal.returns
returns c = finds c.args.self _ _ _ c.requires c.compress.ensures
    c.root_of-root.ensures
