use Rattle.std.proofs.Common.{◌∙◌}
use Rattle.indexmap.proofs.CallerLemmas.{insert_entry-new}
use Rattle.daggy_named.proofs.Entries.{when_ok}
use Rattle.daggy_named.proofs.named.put_name.Goals as goal

pub returns-then-index-len-clause-entered : goal.returns-then-index-len-clause-entered
returns-then-index-len-clause-entered g c =
    when_ok c.insert.result (c.insert.ensures.succeeds c.requires.room) c.insert.ensures.entries
    ∙ insert_entry-new g.K.PartialEq.eq c.args.nodes.now c.args.key c.args.n c.requires.absent

pub returns-else-index-len-clause-entered : goal.returns-else-index-len-clause-entered
returns-else-index-len-clause-entered g c =
    when_ok c.insert.result (c.insert.ensures.succeeds c.requires.room) c.insert.ensures.entries
    ∙ insert_entry-new g.K.PartialEq.eq c.args.nodes.now c.args.key c.args.n c.requires.absent
