-- One octet more is stored.
use Rattle.std.proofs.Common.{◌≡◌, rules}
use Rattle.setup.specs.Meaning.{octet_at}
use Rattle.setup.proofs.Cases.{kept_more}
use Rattle.setup.proofs.keep.Goals as goal

pub loop-k-preserved : goal.loop-k-preserved
loop-k-preserved c =
    let value : c.unwrap_or.result ≡ octet_at c.args.body.now c.loop-k.k = search rules in
    kept_more _ _ _ _ _ _ c.loop-k-test.true value c.loop-k.invariant
