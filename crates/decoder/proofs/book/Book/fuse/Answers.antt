-- `fuse` meets its contract. Assumes nothing.
use Rattle.decoder.proofs.BookLaws.{roots_joinable, fuse_mergeable, fuses}
use Rattle.decoder.proofs.book.Book.fuse.Goals as goal

pub join-joined-requires : goal.join-joined-requires
join-joined-requires c = roots_joinable c.args.self _ _ c.requires _ _ c.find-first.ensures c.find-second.ensures

pub merge-requires : goal.merge-requires
merge-requires c = fuse_mergeable c.args.self _ _ c.requires _ _ c.find-first.ensures c.find-second.ensures _ _ c.join-joined.ensures

pub returns : goal.returns
returns c = fuses c.args.self _ _ c.requires _ _ c.find-first.ensures c.find-second.ensures _ _ c.join-joined.ensures
    _ c.merge.ensures
