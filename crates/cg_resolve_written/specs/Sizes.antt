-- How large written types are, without the types that they become: a size is put together of the sizes of the parts.
use Rattle.std.specs.Prelude.{ℕ, ◌+◌, max, List, [], ◌∷◌, ◌++◌, sum, slice_get, Option, Some, None, if◌then◌else◌}
use Rattle.cg_base.specs.Types as kernel
use Rattle.cg_base.specs.Types.{Tau, var, unit, word, bool, arrow, abs, variant, fields, Taus, none, more, Parts, end, part}
use Rattle.cg_surface.specs.Written.{Written, Writtens, WrittenFields, WrittenAlts}
use Rattle.cg_surface.specs.Written as types
use Rattle.cg_resolve_def.specs.Declared.{is_variable, looked_up, plain_types}
use Rattle.cg_resolve_def.specs.Expand.{Bodies}

-- the size of an argument, or 1 where there is none
abbrev pub or_one : Option ℕ → ℕ
or_one (Some n) = n
or_one None = 1

-- how many nodes a type of the kernel has with arguments of these sizes for its variables
unfoldable mutual
  pub weighed : List ℕ → Tau → ℕ
  weighed sizes (var n) = or_one (slice_get sizes n)
  weighed sizes (kernel.seen n) = or_one (slice_get sizes n)
  weighed sizes unit = 1
  weighed sizes (word w) = 1
  weighed sizes bool = 1
  weighed sizes (arrow a b) = weighed sizes a + weighed sizes b + 1
  weighed sizes (abs n ts sigil) = weighed_all sizes ts + 1
  weighed sizes (variant ps) = weighed_parts sizes ps + 1
  weighed sizes (fields ps sigil) = weighed_parts sizes ps + 1

  pub weighed_all : List ℕ → Taus → ℕ
  weighed_all sizes none = 0
  weighed_all sizes (more t ts) = weighed sizes t + weighed_all sizes ts

  pub weighed_parts : List ℕ → Parts → ℕ
  weighed_parts sizes end = 0
  weighed_parts sizes (part n t taken ps) = weighed sizes t + weighed_parts sizes ps

-- the size of a type by its name, with arguments of these sizes, where this is its plain type and this its body
abbrev pub applied_size : List ℕ → Option Tau → Option Tau → ℕ
applied_size sizes (Some t) body = 1
applied_size sizes None (Some body) = weighed sizes body
applied_size sizes None None = sum sizes + 1

module _ (known : Bodies) where
  unfoldable pub named_size : List ℕ → List ℕ → ℕ
  named_size n sizes = if is_variable n then 1 else applied_size sizes (looked_up plain_types n) (known n)

  abbrev mutual
    -- the size of a written type
    pub size : Written → ℕ
    size (types.named p n args) = named_size n (sizes args)
    size (types.nothing p) = 1
    size (types.tuple p ts) = total ts + 1
    size (types.paren p t) = size t
    size (types.arrow p a b) = size a + size b + 1
    size (types.fields p boxed fs) = total_fields fs + 1
    size (types.variant p choices) = total_alts choices + 1
    size (types.bang p t) = size t
    size (types.take_some p t ns) = size t
    size (types.take_all p t q) = size t

    -- those of types, one by one and together
    pub sizes : Writtens → List ℕ
    sizes types.no_types = []
    sizes (types.and_type ts t) = sizes ts ++ size t ∷ []

    pub total : Writtens → ℕ
    total types.no_types = 0
    total (types.and_type ts t) = total ts + size t

    pub total_fields : WrittenFields → ℕ
    total_fields types.no_fields = 0
    total_fields (types.and_field fs at t) = total_fields fs + size t

    pub total_alts : WrittenAlts → ℕ
    total_alts types.no_alts = 0
    total_alts (types.and_plain choices at) = total_alts choices + 1
    total_alts (types.and_alt choices at t) = total_alts choices + size t

  -- the size of the payload of an alternative
  abbrev pub payload_size : Option Written → ℕ
  payload_size None = 1
  payload_size (Some t) = size t

  abbrev mutual
    -- the size of the largest type that is written in a type, itself among them
    pub greatest : Written → ℕ
    greatest (types.named p n args) = max (named_size n (sizes args)) (greatest_of args)
    greatest (types.nothing p) = 1
    greatest (types.tuple p ts) = max (total ts + 1) (greatest_of ts)
    greatest (types.paren p t) = greatest t
    greatest (types.arrow p a b) = max (size a + size b + 1) (max (greatest a) (greatest b))
    greatest (types.fields p boxed fs) = max (total_fields fs + 1) (greatest_field fs)
    greatest (types.variant p choices) = max (total_alts choices + 1) (greatest_alt choices)
    greatest (types.bang p t) = greatest t
    greatest (types.take_some p t ns) = greatest t
    greatest (types.take_all p t q) = greatest t

    pub greatest_of : Writtens → ℕ
    greatest_of types.no_types = 0
    greatest_of (types.and_type ts t) = max (greatest_of ts) (greatest t)

    pub greatest_field : WrittenFields → ℕ
    greatest_field types.no_fields = 0
    greatest_field (types.and_field fs at t) = max (greatest_field fs) (greatest t)

    pub greatest_alt : WrittenAlts → ℕ
    greatest_alt types.no_alts = 0
    greatest_alt (types.and_plain choices at) = greatest_alt choices
    greatest_alt (types.and_alt choices at t) = max (greatest_alt choices) (greatest t)

  abbrev pub greatest_payload : Option Written → ℕ
  greatest_payload None = 0
  greatest_payload (Some t) = greatest t
