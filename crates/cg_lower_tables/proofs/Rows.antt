-- The rows of a table of structs.
use Rattle.std.proofs.Common.{◌≡◌, ℕ, zero, suc, ◌+◌, ◌<◌, ◌≤◌, ◌⊎◌, inl, inr, nat_eq, not, List, [], ◌∷◌, ◌++◌, length, position, slice_get, Some, None, is_some, true, refl, sym, ap, ◌∙◌, subst, arith}
use Rattle.std.specs.List.{position_or_len}
use Rattle.std.specs.Map.{keys_of, lookup}
use Rattle.std.proofs.lemmas.List.{length-append, length-map, map-append}
use Rattle.std.proofs.lemmas.List.Sums.{prefix_len-le-length}
use Rattle.std.proofs.lemmas.Option.{slice_get_within}
use Rattle.indexmap.specs.IndexMap.{insert_entry}
use Rattle.indexmap.proofs.MapLemmas.{some_index, absent_from_lookup, insert_entry-absent}
use Rattle.cg_base.specs.Types.{Tau}
use Rattle.cg_lower_def.specs.CTypes.{form}
use Rattle.cg_lower_def.specs.Structs.{HasBelow, IsTable, is_in, numbered_in}
use Rattle.cg_inst_types.specs.Places.{IsOnce, Keeps, type_at}
use Rattle.cg_lower_tables.specs.declared.members.Row.{Row}
use Rattle.cg_lower_tables.specs.Tables.{IsFor, IsPlainAt, IsRow, IsSound, Known, known_of, table_of}
use Rattle.cg_lower_tables.proofs.Numbers.{below_stays, in_last, keeps_more, none_first, numbered_is}
use Rattle.cg_inst_types.proofs.Searches.{none_left}

-- what stands in a list that got one more stood there before, or is that one
pub get_push : {A : Type 0} (xs : List A) (x : A) (i : ℕ) (a : A) → slice_get (xs ++ x ∷ []) i ≡ Some a → (slice_get xs i ≡ Some a) ⊎ ((i ≡ length xs) × (x ≡ a))
get_push [] x zero a e = inr (refl, (cc))
get_push [] x (suc i) a e = absurd (cc)
get_push (y ∷ ys) x zero a e = inl e
get_push (y ∷ ys) x (suc i) a e = by (get_push ys x i a e)
  where
    by : (slice_get ys i ≡ Some a) ⊎ ((i ≡ length ys) × (x ≡ a)) → (slice_get ys i ≡ Some a) ⊎ ((suc i ≡ length (y ∷ ys)) × (x ≡ a))
    by (inl l) = inl l
    by (inr r) = inr (ap suc r.0, r.1)

inserted_last : (es : List (ℕ × Row)) (k : ℕ) (v : Row) → position (nat_eq k) (keys_of es) ≡ None → insert_entry nat_eq es k v ≡ es ++ (k, v) ∷ []
inserted_last es k v e =
    insert_entry-absent nat_eq k v es (absent_from_lookup (nat_eq k) es (none_left (lookup (nat_eq k) es) (sym (some_index (nat_eq k) es) ∙ ap is_some e)))

module _ (types : List Tau) where
  -- the row of a type
  pub row_at : (rows : List (ℕ × Row)) (i : ℕ) (t : Tau) → slice_get (table_of types rows) i ≡ Some t → (r : ℕ × Row) × (slice_get rows i ≡ Some r) × (type_at types r.0 ≡ t)
  row_at [] i t e = absurd (cc)
  row_at (r ∷ rows) zero t e = (r, refl, (cc))
  row_at (r ∷ rows) (suc i) t e = row_at rows i t e

  pub length_table : (rows : List (ℕ × Row)) → length (table_of types rows) ≡ length rows
  length_table rows = length-map rows (λ r. type_at types r.0)

  module _ (rows : List (ℕ × Row)) (sound : IsSound types rows) where
    pub is_table : IsTable (table_of types rows)
    is_table = record {
      few = let few = sound.few in omega (arith, few, length_table rows);
      ordered = λ i t e. let r = row_at rows i t e in subst (HasBelow (table_of types rows) i) r.2 (sound.each i r.0 r.1).below;
    }

    each_plain : (i : ℕ) (r : ℕ × Row) → slice_get rows i ≡ Some r → IsPlainAt types r.0
    each_plain i r e = (sound.each i r e).plain

    -- the number of a struct is its place among the rows
    pub place_is : IsOnce types → (p : ℕ) → IsPlainAt types p → numbered_in (table_of types rows) (form (type_at types p)) ≡ position_or_len (nat_eq p) (keys_of rows)
    place_is once p at = numbered_is types once p at rows each_plain

    -- a type has the number of rows where there is no struct for it
    pub place_at_most : IsOnce types → (p : ℕ) → IsPlainAt types p → length (keys_of rows) ≤ position_or_len (nat_eq p) (keys_of rows)
        → length rows ≡ numbered_in (table_of types rows) (form (type_at types p))
    place_at_most once p at past =
        let most = prefix_len-le-length (λ k. not (nat_eq p k)) (keys_of rows) in let keys = length-map rows (λ r. r.0) in let same = place_is once p at in omega (arith, past, most, keys, same)

    -- ---- one more row
    module _ (p : ℕ) (row : Row) (at : IsPlainAt types p) where
      abbrev more : List (ℕ × Row)
      more = rows ++ (p, row) ∷ []

      pub table_more : table_of types more ≡ table_of types rows ++ type_at types p ∷ []
      table_more = map-append (λ r. type_at types r.0) rows ((p, row) ∷ [])

      table_keeps : Keeps (table_of types rows) (table_of types more)
      table_keeps = subst (Keeps (table_of types rows)) (sym table_more) (keeps_more (table_of types rows) (type_at types p))

      sound_more : IsFor types row (type_at types p) → HasBelow (table_of types rows) (length (table_of types rows)) (type_at types p) → length rows < 4294967296 → IsSound types more
      sound_more for_type below room = record {
        few = let count : length more ≡ length rows + 1 = length-append rows ((p, row) ∷ []) in omega (arith, count, room);
        each = λ i r e. by i r (get_push rows (p, row) i r e);
      }
        where
          by : (i : ℕ) (r : ℕ × Row) → (slice_get rows i ≡ Some r) ⊎ ((i ≡ length rows) × ((p, row) ≡ r)) → IsRow types (table_of types more) i r
          by i r (inl e) =
              let is = sound.each i r e in
              let within : i ≤ length (table_of types rows) = let lt = slice_get_within rows i r e in omega (arith, lt, length_table rows) in
              record {
                plain = is.plain;
                for_type = is.for_type;
                below = below_stays (table_of types rows) (table_of types more) table_keeps i within (type_at types r.0) is.below;
              }
          by i r (inr e) = subst (λ q. IsRow types (table_of types more) i q) e.1 (record {
            plain = at;
            for_type = for_type;
            below = subst (λ n. HasBelow (table_of types more) n (type_at types p)) (length_table rows ∙ sym e.0)
                (below_stays (table_of types rows) (table_of types more) table_keeps (length (table_of types rows)) (omega arith) (type_at types p) below);
          })

      module _ (once : IsOnce types) (absent : length rows ≤ numbered_in (table_of types rows) (form (type_at types p))) (new : List (ℕ × Row)) (e : new ≡ insert_entry nat_eq rows p row) where
        new_is : new ≡ more
        new_is =
            let past : length (keys_of rows) ≤ position_or_len (nat_eq p) (keys_of rows) = let same = place_is once p at in let keys = length-map rows (λ r. r.0) in omega (arith, same, absent, keys) in
            e ∙ inserted_last rows p row (none_first (position_or_len (nat_eq p) (keys_of rows)) (length (keys_of rows)) past)

        pub sound_new : IsFor types row (type_at types p) → HasBelow (table_of types rows) (length (table_of types rows)) (type_at types p) → length rows < 4294967296 → IsSound types new
        sound_new for_type below room = subst (IsSound types) (sym new_is) (sound_more for_type below room)

        pub in_new : is_in (table_of types new) (form (type_at types p)) ≡ true
        in_new = subst (λ ts. is_in ts (form (type_at types p)) ≡ true) (sym (ap (table_of types) new_is ∙ table_more)) (in_last (table_of types rows) (type_at types p))

        pub grown_new : table_of types new ≡ table_of types rows ++ type_at types p ∷ []
        grown_new = ap (table_of types) new_is ∙ table_more

        pub keeps_new : Keeps (table_of types rows) (table_of types new)
        keeps_new = subst (λ rs. Keeps (table_of types rows) (table_of types rs)) (sym new_is) table_keeps

-- a struct that has no number below the end
pub absent_where : (types : List Tau) (rows : List (ℕ × Row)) (now : Known) → known_of types rows ≡ now → (p : ℕ) → length now.table ≤ numbered_in now.table (form (type_at now.types p))
    → length rows ≤ numbered_in (table_of types rows) (form (type_at types p))
absent_where types rows now view p past =
    let there = subst (λ s. length s.table ≤ numbered_in s.table (form (type_at s.types p))) (sym view) past in let count = length_table types rows in omega (arith, there, count)

-- a row is for the type at its place
at_row : (types : List Tau) (rows : List (ℕ × Row)) (i : ℕ) (r : ℕ × Row) → slice_get rows i ≡ Some r → type_at (table_of types rows) i ≡ type_at types r.0
at_row types [] i r e = absurd (cc)
at_row types (q ∷ rows) zero r e = let same : q ≡ r = cc in ap (λ p. type_at types p.0) same
at_row types (q ∷ rows) (suc i) r e = at_row types rows i r e

pub row_for : (types : List Tau) (rows : List (ℕ × Row)) → IsSound types rows → (now : Known) → known_of types rows ≡ now → (i p : ℕ) (row : Row) → slice_get rows i ≡ Some (p, row) → IsFor now.types row (type_at now.table i)
row_for types rows sound now view i p row e =
    subst (λ s. IsFor s.types row (type_at s.table i)) view (subst (IsFor types row) (sym (at_row types rows i (p, row) e)) (sound.each i (p, row) e).for_type)
