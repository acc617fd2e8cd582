use Rattle.cg_heaptext_entries.proofs.Entries.{answers}
use Rattle.cg_heaptext_entries.proofs.pass.read_entries.Goals as goal

pub returns : goal.returns
returns c = answers c.args.bytes.now c.in_ok-read_text.field-0 c.find.result c.in_ok-read_text.ensures c.find.ensures
