-- `Bank::put_word` meets its contract: one store is `word_put`.
use Rattle.std.proofs.Common.{arith}
use Rattle.bank.proofs.Laws.{word_put}
use Rattle.bank.proofs.Bank.put_word.Goals as goal

pub returns : goal.returns
returns c = word_put c.args.self.now.words c.args.r c.args.k c.args.v c.requires.1 (omega arith)
