-- The types of an iterator's C, and those of its locals.
use Rattle.cg_base.specs.declared.kind.Word.{Word}
use Rattle.cg_ctree.specs.declared.tree.CTy.{CTy}
use Rattle.cg_ctree.specs.declared.tree.CTy.TheVariants as ty
use Rattle.cg_cgen_def.specs.Loops.{Types}
use Rattle.cg_cgen.specs.declared.iterators.IterTypes.{IterTypes}
use Rattle.cg_cgen.specs.declared.locals.Kind.{Kind}
use Rattle.cg_cgen.specs.declared.locals.Kind.TheVariants as kind

abbrev pub types_of : IterTypes → Types
types_of t = record { argument = t.arg; result = t.result; item = t.item; answer = t.answer; word = t.word }

-- the type of a local
abbrev pub kind_type : Types → Kind → CTy
kind_type types (kind.Word w) = ty.Word w
kind_type types kind.Item = types.item
kind_type types kind.Answer = types.answer
kind_type types kind.Result = types.result
