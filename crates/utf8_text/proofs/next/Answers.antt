-- `utf8_text::next` meets its contract: behind one ASCII byte the others are passed. Assumes nothing.
use Rattle.utf8.proofs.Laws.{after-ascii, read_first, passed_on}
use Rattle.utf8_text.proofs.next.Goals as goal

pub returns-else-s-i-gt127 : goal.returns-else-s-i-gt127
returns-else-s-i-gt127 c =
    passed_on (passed_on (read_first _ _ _ c.requires (after-ascii _ c.if-s-i-gt127.false)) c.skip_blocks.ensures) c.skip_ascii.ensures
