-- `text::Page::put_octets` meets its contract: a text that has places enough is put whole. Assumes nothing.
use Rattle.std.proofs.Common.{arith}
use Rattle.text.proofs.Room.{put_whole}
use Rattle.text.proofs.Page.put_octets.Goals as goal

pub returns-then-octets-at : goal.returns-then-octets-at
returns-then-octets-at g c = rw (c.copy_from_slice.ensures.after, ← c.self.view_is) (put_whole _ _ _ (omega arith))
