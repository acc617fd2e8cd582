use Rattle.std.proofs.Common.{refl}
use Rattle.cg_heaptext_lexer.specs.Next.{lexeme}
use Rattle.cg_heaptext_values.proofs.Takes.{takes_field}
use Rattle.cg_heaptext_values.proofs.list.FieldsAt.next.Goals as goal

pub returns : goal.returns
returns c fs s =
    takes_field c.args.self.now.more c.args.self.now.lexer c.next.new.self c.next-2.new.self fs c.next.result.kind c.next-2.result.kind (lexeme c.next.result) (lexeme c.next-2.result) (record { name = c.next.result.text; value = c.copy.result })
    (record { lexer = c.pass_value-self.new.lexer; more = c.pass_value-self.result }) c.if-not-self.false refl c.next.ensures c.next-2.ensures c.copy.ensures c.pass_value-self.ensures s
