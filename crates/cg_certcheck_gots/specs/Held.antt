-- What a literal left of its guide comes to, and what a part of a type holds that a node names.
use Rattle.std.specs.Prelude.{ℕ, ◌&&◌, not, Option, Some, List, Ok}
use Rattle.cg_base.specs.declared.kind.Kinds.{Kinds}
use Rattle.cg_base.specs.declared.limit.Limit.TheVariants.{Ty}
use Rattle.cg_base.specs.declared.place.Place.{Place}
use Rattle.cg_base.specs.Types.{Tau}
use Rattle.cg_cert.specs.declared.fault.CertFault.TheVariants.{Limit}
use Rattle.cg_core.specs.declared.derivation.Node.TheVariants as nodes
use Rattle.cg_core.specs.Terms.{lit}
use Rattle.cg_certcheck_def.specs.Events.{meets, is_number}
use Rattle.cg_certcheck_def.specs.Pass.{Out, Cursor, Got, row, test, made}
use Rattle.cg_typing.specs.Contexts.{shares}
use Rattle.cg_typing.specs.Parts.{field_in, alternative_in, held, is_left, is_there, is_last, is_read_only, may_be_put_over, is_small_enough}
use Rattle.cg_typing.specs.Trees.{leaf}

-- what such a literal comes to, by its guide's type
unfoldable pub literal_judged : Place → Option ℕ → Tau → ℕ → Cursor → Out Got
literal_judged place value t n behind =
    row n (is_number value (Some t)) (test (Limit Ty) (is_small_enough t) (Ok (made place t (lit value) (leaf nodes.Lit) behind)))

-- ---- what a part of a type holds that a node names, after the tests on it

unfoldable pub alternative_held : ℕ → List ℕ → Tau → Out Tau
alternative_held n name t = row n (is_left (alternative_in name t)) (Ok (held (alternative_in name t)))

unfoldable pub last_held : ℕ → Option Tau → List ℕ → Tau → Out Tau
last_held n direction name t =
    row n (is_left (alternative_in name t) && (is_last name t && meets direction (held (alternative_in name t)))) (Ok (held (alternative_in name t)))

unfoldable pub member_held : List Kinds → ℕ → Option Tau → List ℕ → Tau → Out Tau
member_held vars n direction name t =
    row n (is_left (field_in name t) && (shares vars t && meets direction (held (field_in name t)))) (Ok (held (field_in name t)))

unfoldable pub taken_held : ℕ → List ℕ → Tau → Out Tau
taken_held n name t = row n (is_left (field_in name t) && not (is_read_only t)) (Ok (held (field_in name t)))

unfoldable pub put_held : List Kinds → ℕ → List ℕ → Tau → Out Tau
put_held vars n name t =
    row n (is_there (field_in name t) && (not (is_read_only t) && may_be_put_over vars (field_in name t))) (Ok (held (field_in name t)))
