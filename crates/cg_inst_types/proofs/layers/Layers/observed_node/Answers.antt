use Rattle.std.proofs.Common.{sym, subst, ap, ◌∙◌}
use Rattle.cg_inst_types.specs.Layers.{Fits, made}
use Rattle.cg_kinds.specs.Kinds.{bang}
use Rattle.cg_inst_types.specs.declared.rows.Node.TheVariants as node
use Rattle.cg_inst_types.proofs.Observed.{observed_unit, observed_word, observed_bool, observed_arrow, observed_variant, observed_abs, observed_record, observed_argument, observed_part, fits_argument, fits_part}
use Rattle.cg_inst_types.proofs.layers.Layers.observed_node.Goals as goal

pub returns-in-Unit-clause-observed : goal.returns-in-Unit-clause-observed
returns-in-Unit-clause-observed c =
    observed_unit c.args.self.now.names c.args.self.now.types
    ∙ ap (λ n. bang (made c.args.self.now.names c.args.self.now.types n)) (sym c.in-Unit.is)

pub returns-in-Word-clause-observed : goal.returns-in-Word-clause-observed
returns-in-Word-clause-observed c =
    observed_word c.args.self.now.names c.args.self.now.types c.in-Word.word
    ∙ ap (λ n. bang (made c.args.self.now.names c.args.self.now.types n)) (sym c.in-Word.is)

pub returns-in-Bool-clause-observed : goal.returns-in-Bool-clause-observed
returns-in-Bool-clause-observed c =
    observed_bool c.args.self.now.names c.args.self.now.types
    ∙ ap (λ n. bang (made c.args.self.now.names c.args.self.now.types n)) (sym c.in-Bool.is)

pub returns-in-Arrow-clause-observed : goal.returns-in-Arrow-clause-observed
returns-in-Arrow-clause-observed c =
    observed_arrow c.args.self.now.names c.args.self.now.types c.in-Arrow.from c.in-Arrow.to
    ∙ ap (λ n. bang (made c.args.self.now.names c.args.self.now.types n)) (sym c.in-Arrow.is)

pub returns-in-Variant-clause-observed : goal.returns-in-Variant-clause-observed
returns-in-Variant-clause-observed c =
    observed_variant c.args.self.now.names c.args.self.now.types
    ∙ ap (λ n. bang (made c.args.self.now.names c.args.self.now.types n)) (sym c.in-Variant.is)

pub returns-in-Abs-clause-observed : goal.returns-in-Abs-clause-observed
returns-in-Abs-clause-observed c =
    ap (λ sigil. made c.args.self.now.names c.args.self.now.types (node.Abs c.in-Abs.name sigil)) c.observed_sigil.ensures ∙ observed_abs c.args.self.now.names c.args.self.now.types c.in-Abs.name c.in-Abs.sigil
    ∙ ap (λ n. bang (made c.args.self.now.names c.args.self.now.types n)) (sym c.in-Abs.is)

pub returns-in-Record-clause-observed : goal.returns-in-Record-clause-observed
returns-in-Record-clause-observed c =
    ap (λ sigil. made c.args.self.now.names c.args.self.now.types (node.Record sigil)) c.observed_sigil-in-Record.ensures ∙ observed_record c.args.self.now.names c.args.self.now.types c.in-Record.sigil
    ∙ ap (λ n. bang (made c.args.self.now.names c.args.self.now.types n)) (sym c.in-Record.is)

pub returns-in-Argument-clause-observed : goal.returns-in-Argument-clause-observed
returns-in-Argument-clause-observed c =
    observed_argument c.args.self.now.names c.args.self.now.types c.in-Argument.rest c.observed.result c.in-Argument.ty c.observed-in-Argument.result c.observed.ensures c.observed-in-Argument.ensures
    ∙ ap (λ n. bang (made c.args.self.now.names c.args.self.now.types n)) (sym c.in-Argument.is)

pub returns-in-Argument-clause-fits : goal.returns-in-Argument-clause-fits
returns-in-Argument-clause-fits c =
    fits_argument c.args.self.now.names c.args.self.now.types c.in-Argument.rest c.observed.result c.in-Argument.ty c.observed-in-Argument.result c.observed.ensures c.observed-in-Argument.ensures (subst (Fits c.args.self.now.names c.args.self.now.types) c.in-Argument.is c.requires)

pub returns-in-Part-clause-observed : goal.returns-in-Part-clause-observed
returns-in-Part-clause-observed c =
    observed_part c.args.self.now.names c.args.self.now.types c.in-Part.rest c.observed-in-Part.result c.in-Part.ty c.observed-in-Part-2.result c.observed-in-Part.ensures c.observed-in-Part-2.ensures c.in-Part.name c.in-Part.taken
    ∙ ap (λ n. bang (made c.args.self.now.names c.args.self.now.types n)) (sym c.in-Part.is)

pub returns-in-Part-clause-fits : goal.returns-in-Part-clause-fits
returns-in-Part-clause-fits c =
    fits_part c.args.self.now.names c.args.self.now.types c.in-Part.rest c.observed-in-Part.result c.in-Part.ty c.observed-in-Part-2.result c.observed-in-Part.ensures c.observed-in-Part-2.ensures c.in-Part.name c.in-Part.taken (subst (Fits c.args.self.now.names c.args.self.now.types) c.in-Part.is c.requires)
