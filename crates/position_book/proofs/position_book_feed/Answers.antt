-- What the feed says, and the bytes of the book. Assumes nothing.
use Rattle.position_book.proofs.Results.{feed_is}
use Rattle.position_book.proofs.position_book_feed.Goals as goal

pub returns : goal.returns
returns c =
    let a = c.args in
    let f = c.ranges in
    feed_is a.table.now (record { id = a.id; instant = a.instant; offset = a.offset; price = a.price; signals = a.signals.now }) f.id f.instant f.offset c.feed_bar.ensures c.feed_answer.ensures
