-- Sizes depend on what is known of the names that a type mentions, and on nothing else.
use Rattle.std.proofs.Common.{◌≡◌, [], ◌∷◌, refl, sym, ap, ◌∙◌, arith}
use Rattle.cg_surface.specs.Written.{Written, Writtens, WrittenFields, WrittenAlts}
use Rattle.cg_surface.specs.Written as types
use Rattle.cg_resolve_def.proofs.Solved.{Agree, agree_left, agree_right, expanded_same}
use Rattle.cg_resolve_def.specs.Expand.{Bodies}
use Rattle.cg_resolve_def.specs.Mentions.{alts_mentions, fields_mentions, type_mentions, types_mentions}
use Rattle.cg_resolve_def.specs.Takes.{nodes}
use Rattle.cg_resolve_written.specs.Sizes.{greatest, greatest_alt, greatest_field, greatest_of, size}
use Rattle.cg_resolve_written.proofs.Nodes.{nodes-expanded}

module _ (known other : Bodies) where
  size_same : (t : Written) → Agree known other (type_mentions t) → size known t ≡ size other t
  size_same t same = sym (nodes-expanded known [] t) ∙ ap nodes (expanded_same known other [] t same) ∙ nodes-expanded other [] t

  mutual
    pub greatest_same : (t : Written) → Agree known other (type_mentions t) → greatest known t ≡ greatest other t
    greatest_same (types.named p n args) same = omega (arith, size_same (types.named p n args) same, types_same args (agree_right known other (n ∷ []) (types_mentions args) same))
    greatest_same (types.nothing p) same = refl
    greatest_same (types.tuple p ts) same = omega (arith, size_same (types.tuple p ts) same, types_same ts same)
    greatest_same (types.paren p t) same = greatest_same t same
    greatest_same (types.arrow p a b) same =
        omega (arith, size_same (types.arrow p a b) same, greatest_same a (agree_left known other (type_mentions a) (type_mentions b) same), greatest_same b (agree_right known other (type_mentions a) (type_mentions b) same))
    greatest_same (types.fields p boxed fs) same = omega (arith, size_same (types.fields p boxed fs) same, fields_same fs same)
    greatest_same (types.variant p choices) same = omega (arith, size_same (types.variant p choices) same, alts_same choices same)
    greatest_same (types.bang p t) same = greatest_same t same
    greatest_same (types.take_some p t ns) same = greatest_same t same
    greatest_same (types.take_all p t q) same = greatest_same t same

    types_same : (ts : Writtens) → Agree known other (types_mentions ts) → greatest_of known ts ≡ greatest_of other ts
    types_same types.no_types same = refl
    types_same (types.and_type ts t) same =
        omega (arith, types_same ts (agree_left known other (types_mentions ts) (type_mentions t) same), greatest_same t (agree_right known other (types_mentions ts) (type_mentions t) same))

    fields_same : (fs : WrittenFields) → Agree known other (fields_mentions fs) → greatest_field known fs ≡ greatest_field other fs
    fields_same types.no_fields same = refl
    fields_same (types.and_field fs at t) same =
        omega (arith, fields_same fs (agree_left known other (fields_mentions fs) (type_mentions t) same), greatest_same t (agree_right known other (fields_mentions fs) (type_mentions t) same))

    alts_same : (choices : WrittenAlts) → Agree known other (alts_mentions choices) → greatest_alt known choices ≡ greatest_alt other choices
    alts_same types.no_alts same = refl
    alts_same (types.and_plain choices at) same = alts_same choices same
    alts_same (types.and_alt choices at t) same =
        omega (arith, alts_same choices (agree_left known other (alts_mentions choices) (type_mentions t) same), greatest_same t (agree_right known other (alts_mentions choices) (type_mentions t) same))
