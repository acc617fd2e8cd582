-- Values that fit a record or a variant, with type arguments in the place of type variables: their parts by name, and what is changed.
use Rattle.std.proofs.Common.{◌≡◌, ℕ, zero, suc, Bool, true, false, ◌&&◌, ◌||◌, not, IsTrue, Option, Some, List, ◌∷◌, get_or, refl, sym, ap, ◌∙◌, subst as at}
use Rattle.std.proofs.lemmas.Bool.{and_parts, and_from}
use Rattle.std.specs.Prelude.{slice_set, if◌then◌else◌}
use Rattle.std.specs.Str.{bytes_eq}
use Rattle.cg_base.specs.Types.{Tau, variant, fields, Parts, end, part, Piece}
use Rattle.cg_kinds.specs.Kinds.{subst, subst_parts}
use Rattle.cg_eval_operations.specs.Positions.{position, position_among}
use Rattle.cg_typing.specs.Parts.{part_named, parts_with, field_in, alternative_in, held, is_left, is_there, is_last, are_others_taken, with_part}
use Rattle.cg_value.specs.Fits.{World, fits, fits_alternative, fits_fields, is_gone}
use Rattle.cg_value.specs.Forms.{field, has_name, payload_in, with_field, without}
use Rattle.cg_value.specs.Values as values
use Rattle.cg_value.specs.Values.{Val, gone, chosen, parts, Vals, to_vals, val_list}
use Rattle.cg_typing_laws.proofs.Named.{left_is_there}
use Rattle.cg_inst.proofs.Names.{either_way, by_cases}
use Rattle.cg_base.proofs.Sequences.{itself as name_same, is_name as name_is}
use Rattle.cg_base.proofs.Counts.{no_steps as never}

pub vals_back : (vs : Vals) → to_vals (val_list vs) ≡ vs
unfolding to_vals val_list
vals_back values.none = refl
vals_back (values.more v vs) = ap (values.more v) (vals_back vs)

-- the first part of a name, over parts and a position as they are for either answer of a test
abbrev first_or : Bool → List ℕ → Tau → Bool → Parts → List ℕ → Option Piece
first_or b n t taken ps x = if b then Some (record { name = x; ty = t; taken = taken }) else part_named n ps

module _ (world : World) (given : List Tau) where
  abbrev Fields : Parts → Vals → Type 0
  Fields ps vs = IsTrue (fits_fields world (subst_parts given ps) vs)

  abbrev Held : Option Piece → Val → Type 0
  Held o v = IsTrue (fits world (subst given (held o)) v)

  -- a field that is left
  field_among : (n : List ℕ) (ps : Parts) (vs : Vals) → Fields ps vs → IsTrue (is_left (part_named n ps)) → Held (part_named n ps) (get_or (val_list vs) (position_among n ps) gone)
  unfolding fits subst val_list position_among
  field_among n end vs f l = never l
  field_among n (part x t true ps) values.none f l = never f
  field_among n (part x t false ps) values.none f l = never f
  field_among n (part x t true ps) (values.more v vs) f l =
      either_way (λ b. IsTrue (is_left (first_or b n t true ps x)) → Held (first_or b n t true ps x) (get_or (v ∷ val_list vs) (if b then zero else suc (position_among n ps)) gone))
      (bytes_eq n x) (λ l. never l) (λ l. field_among n ps vs (and_parts (is_gone v) _ f).1 l) l
  field_among n (part x t false ps) (values.more v vs) f l =
      either_way (λ b. IsTrue (is_left (first_or b n t false ps x)) → Held (first_or b n t false ps x) (get_or (v ∷ val_list vs) (if b then zero else suc (position_among n ps)) gone))
      (bytes_eq n x) (λ l. (and_parts (fits world (subst given t) v) _ f).0) (λ l. field_among n ps vs (and_parts (fits world (subst given t) v) _ f).1 l) l

  -- a record in which a field is another value: gone where it is taken now
  abbrev Goes : Bool → Option Piece → Val → Type 0
  Goes true o w = IsTrue (is_gone w)
  Goes false o w = Held o w

  head_goes : (now : Bool) (x : List ℕ) (t : Tau) (taken : Bool) (w : Val) (ps : Parts) (vs : Vals) → Goes now (Some (record { name = x; ty = t; taken = taken })) w → Fields ps vs → Fields (part x t now ps) (values.more w vs)
  unfolding fits subst
  head_goes true x t taken w ps vs g f = and_from (is_gone w) _ g f
  head_goes false x t taken w ps vs g f = and_from (fits world (subst given t) w) _ g f

  tail_of : (x : List ℕ) (t : Tau) (taken : Bool) (v : Val) (ps qs : Parts) (vs us : Vals) → (Fields ps vs → Fields qs us) → Fields (part x t taken ps) (values.more v vs) → Fields (part x t taken qs) (values.more v us)
  unfolding fits subst
  tail_of x t true v ps qs vs us h f = let p = and_parts (is_gone v) _ f in and_from (is_gone v) _ p.0 (h p.1)
  tail_of x t false v ps qs vs us h f = let p = and_parts (fits world (subst given t) v) _ f in and_from (fits world (subst given t) v) _ p.0 (h p.1)

  later_fields : (x : List ℕ) (t : Tau) (taken : Bool) (v : Val) (ps : Parts) (vs : Vals) → Fields (part x t taken ps) (values.more v vs) → Fields ps vs
  unfolding fits subst
  later_fields x t true v ps vs f = (and_parts (is_gone v) _ f).1
  later_fields x t false v ps vs f = (and_parts (fits world (subst given t) v) _ f).1

  abbrev Set : List ℕ → Bool → Parts → Vals → Val → Type 0
  Set n now ps vs w = Fields (parts_with n now ps) (to_vals (slice_set (val_list vs) (position_among n ps) w))

  set_among : (n : List ℕ) (now : Bool) (ps : Parts) (vs : Vals) (w : Val) → Fields ps vs → IsTrue (is_there (part_named n ps)) → Goes now (part_named n ps) w → Set n now ps vs w
  unfolding fits subst val_list to_vals position_among
  set_among n now end vs w f l g = never l
  set_among n now (part x t true ps) values.none w f l g = never f
  set_among n now (part x t false ps) values.none w f l g = never f
  set_among n now (part x t taken ps) (values.more v vs) w f l g =
      either_way (λ b. IsTrue (is_there (first_or b n t taken ps x)) → Goes now (first_or b n t taken ps x) w
      → Fields (if b then part x t now ps else part x t taken (parts_with n now ps)) (to_vals (slice_set (v ∷ val_list vs) (if b then zero else suc (position_among n ps)) w)))
      (bytes_eq n x)
      (λ l g. head_goes now x t taken w ps _ g (at (Fields ps) (sym (vals_back vs)) (later_fields x t taken v ps vs f)))
      (λ l g. tail_of x t taken v ps (parts_with n now ps) vs _ (λ h. set_among n now ps vs w h l g) f) l g

  -- ---- of records

  pub member_fits : (n : List ℕ) (t : Tau) (v : Val) → IsTrue (fits world (subst given t) v) → IsTrue (is_left (field_in n t)) → Held (field_in n t) (field v (position n t))
  unfolding fits subst field position
  member_fits n (fields ps s) (parts vs) f l = field_among n ps vs f l
  member_fits n (fields ps s) _ f l = never f
  member_fits n _ v f l = never l

  pub without_fits : (n : List ℕ) (t : Tau) (v : Val) → IsTrue (fits world (subst given t) v) → IsTrue (is_left (field_in n t)) → IsTrue (fits world (subst given (with_part n true t)) (without v (position n t)))
  unfolding fits subst without position
  without_fits n (fields ps s) (parts vs) f l = set_among n true ps vs gone f (left_is_there (part_named n ps) l) refl
  without_fits n (fields ps s) _ f l = never f
  without_fits n _ v f l = never l

  pub put_fits : (n : List ℕ) (t : Tau) (v w : Val) → IsTrue (fits world (subst given t) v) → IsTrue (is_there (field_in n t)) → Held (field_in n t) w
      → IsTrue (fits world (subst given (with_part n false t)) (with_field v (position n t) w))
  unfolding fits subst with_field position
  put_fits n (fields ps s) (parts vs) w f l h = set_among n false ps vs w f l h
  put_fits n (fields ps s) _ w f l h = never f
  put_fits n _ v w f l h = never l

  -- ---- of variants

  abbrev Alternative : List ℕ → Parts → Val → Type 0
  Alternative x ps v = IsTrue (fits_alternative world x (subst_parts given ps) v)

  chosen_among : (x : List ℕ) (ps : Parts) (v : Val) → IsTrue (is_left (part_named x ps)) → Held (part_named x ps) v → Alternative x ps v
  unfolding fits subst
  chosen_among x end v l h = never l
  chosen_among x (part y t taken ps) v l h =
      either_way (λ b. IsTrue (is_left (first_or b x t taken ps y)) → Held (first_or b x t taken ps y) v
      → IsTrue (if b then not taken && fits world (subst given t) v else fits_alternative world x (subst_parts given ps) v))
      (bytes_eq x y) (λ l h. and_from (not taken) _ l h) (λ l h. chosen_among x ps v l h) l h

  payload_among : (x : List ℕ) (ps : Parts) (v : Val) → Alternative x ps v → Held (part_named x ps) v
  unfolding fits subst
  payload_among x end v f = never f
  payload_among x (part y t taken ps) v f =
      either_way (λ b. IsTrue (if b then not taken && fits world (subst given t) v else fits_alternative world x (subst_parts given ps) v) → Held (first_or b x t taken ps y) v)
      (bytes_eq x y) (λ f. (and_parts (not taken) _ f).1) (λ f. payload_among x ps v f) f

  -- another alternative than n is as it was, once n is taken
  others_among : (n x : List ℕ) (ps : Parts) (v : Val) → bytes_eq n x ≡ false → Alternative x ps v → Alternative x (parts_with n true ps) v
  unfolding fits subst
  others_among n x end v e f = f
  others_among n x (part y t taken ps) v e f =
      by_cases (λ b. Alternative x (if b then part y t true ps else part y t taken (parts_with n true ps)) v) (bytes_eq n y)
      (λ same. by_cases (λ b. IsTrue (if b then not taken && fits world (subst given t) v else fits_alternative world x (subst_parts given ps) v)
      → IsTrue (if b then not true && fits world (subst given t) v else fits_alternative world x (subst_parts given ps) v)) (bytes_eq x y)
      (λ q f. absurd (let a = name_is n y same in let c = name_is x y q in let d = name_same n in cc)) (λ q f. f) f)
      (λ other. either_way (λ b. IsTrue (if b then not taken && fits world (subst given t) v else fits_alternative world x (subst_parts given ps) v)
      → IsTrue (if b then not taken && fits world (subst given t) v else fits_alternative world x (subst_parts given (parts_with n true ps)) v)) (bytes_eq x y)
      (λ f. f) (λ f. others_among n x ps v e f) f)

  -- what is left where all others are taken is n
  last_among : (n x : List ℕ) (ps : Parts) (v : Val) → IsTrue (are_others_taken n ps) → Alternative x ps v → n ≡ x
  unfolding fits subst
  last_among n x end v o f = never f
  last_among n x (part y t taken ps) v o f =
      let p = and_parts (bytes_eq n y || taken) _ o in
      by_cases (λ b. IsTrue (if b then not taken && fits world (subst given t) v else fits_alternative world x (subst_parts given ps) v) → n ≡ x) (bytes_eq x y)
      (λ q f. name_is n y (left_or (bytes_eq n y) taken (and_parts (not taken) _ f).0 p.0) ∙ sym (name_is x y q)) (λ q f. last_among n x ps v p.1 f) f
    where
      left_or : (a b : Bool) → IsTrue (not b) → IsTrue (a || b) → a ≡ true
      left_or true b h k = refl
      left_or false true h k = absurd (cc)
      left_or false false h k = k

  pub con_fits : (n : List ℕ) (t : Tau) (v : Val) → IsTrue (is_left (alternative_in n t)) → Held (alternative_in n t) v → IsTrue (fits world (subst given t) (chosen n v))
  unfolding fits subst
  con_fits n (variant ps) v l h = chosen_among n ps v l h
  con_fits n _ v l h = never l

  pub payload_fits : (n : List ℕ) (t : Tau) (v : Val) → IsTrue (is_left (alternative_in n t)) → IsTrue (fits world (subst given t) v) → IsTrue (has_name n v) → Held (alternative_in n t) (payload_in v)
  unfolding fits subst has_name payload_in
  payload_fits n (variant ps) (chosen x v) l f h = at (λ x. Held (part_named x ps) v) (sym (name_is n x h)) (payload_among x ps v f)
  payload_fits n (variant ps) _ l f h = never f
  payload_fits n _ v l f h = never l

  pub others_fit : (n : List ℕ) (t : Tau) (v : Val) → IsTrue (is_left (alternative_in n t)) → IsTrue (fits world (subst given t) v) → has_name n v ≡ false → IsTrue (fits world (subst given (with_part n true t)) v)
  unfolding fits subst has_name
  others_fit n (variant ps) (chosen x v) l f h = others_among n x ps v h f
  others_fit n (variant ps) _ l f h = never f
  others_fit n _ v l f h = never l

  pub last_fits : (n : List ℕ) (t : Tau) (v : Val) → IsTrue (is_last n t) → IsTrue (fits world (subst given t) v) → Held (alternative_in n t) (payload_in v)
  unfolding fits subst payload_in
  last_fits n (variant ps) (chosen x v) o f = at (λ x. Held (part_named x ps) v) (sym (last_among n x ps v o f)) (payload_among x ps v f)
  last_fits n (variant ps) _ o f = never f
  last_fits n _ v o f = never o
