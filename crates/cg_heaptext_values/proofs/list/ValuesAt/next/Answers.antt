use Rattle.cg_heaptext_values.proofs.Takes.{takes_value}
use Rattle.cg_heaptext_values.proofs.list.ValuesAt.next.Goals as goal

pub returns : goal.returns
returns c vs s =
    takes_value c.args.self.now.more c.args.self.now.lexer vs c.copy.result (record { lexer = c.pass_value-self.new.lexer; more = c.pass_value-self.result }) c.if-not-self.false c.copy.ensures c.pass_value-self.ensures s
