-- Nodes and the types made from them.
use Rattle.std.proofs.Common.{◌≡◌, ℕ, suc, ◌<◌, ◌≤◌, ◌+◌, Bool, IsTrue, List, [], ◌∷◌, ◌++◌, length, map, fold, slice_get, Some, refl, sym, ap, ◌∙◌, true≢false, zero-add, arith, rules}
use Rattle.std.proofs.lemmas.List.{length-append}
use Rattle.std.proofs.lemmas.Option.{slice_get-get_or}
use Rattle.cg_base.specs.Types.{Tau, var, seen, unit, word, bool, arrow, abs, variant, fields, none, more, end, part}
use Rattle.cg_inst_types.specs.declared.rows.Node.{Node}
use Rattle.cg_inst_types.specs.declared.rows.Node.TheVariants as node
use Rattle.cg_inst_types.specs.declared.rows.Fact.{Fact}
use Rattle.cg_inst_types.specs.Forms.{with_argument, with_part}
use Rattle.cg_inst_types.specs.Places.{Each, IsOnce, Keeps, type_at, name_at, or_empty}
use Rattle.cg_inst_types.specs.Layers.{made, types_of, parts_of, names_of, is_abs, has_parts, is_formed, Fits, parts_in, names_in, IsSound}
use Rattle.cg_inst_types.proofs.Growth.{keeps_same, keeps_length, keeps_get, type_within, type_kept}

-- ---- how a node and its type are told apart: all but the places of their parts

abbrev label : Node → Node
label (node.Arrow from to) = node.Arrow 0 0
label (node.Abs name sigil) = node.Abs 0 sigil
label (node.Argument rest ty) = node.Argument 0 0
label (node.Part rest name ty taken) = node.Part 0 0 0 taken
label n = n

abbrev label_in : Tau → Node
label_in (var n) = node.Unit
label_in (seen n) = node.Unit
label_in unit = node.Unit
label_in (word w) = node.Word w
label_in bool = node.Bool
label_in (arrow a b) = node.Arrow 0 0
label_in (abs name none sigil) = node.Abs 0 sigil
label_in (abs name (more t ts) sigil) = node.Argument 0 0
label_in (variant end) = node.Variant
label_in (variant (part name t taken ps)) = node.Part 0 0 0 taken
label_in (fields end sigil) = node.Record sigil
label_in (fields (part name t taken ps) sigil) = node.Part 0 0 0 taken

same_node : (a b : Node) → label a ≡ label b → parts_of a ≡ parts_of b → names_of a ≡ names_of b → a ≡ b
same_node a b e f g = grind (rules, arith)

-- what a type shows of the node that it is made from
record Shows (names : List (List ℕ)) (types : List Tau) (n : Node) (t : Tau) : Type 0 where
  parts : parts_in t ≡ map (type_at types) (parts_of n)
  its_names : names_in t ≡ map (name_at names) (names_of n)
  its_label : label_in t ≡ label n

argument_shows : (names : List (List ℕ)) (types : List Tau) (rest ty : ℕ) (r : Tau) → r ≡ type_at types rest → IsTrue (is_abs r) → Shows names types (node.Argument rest ty) (with_argument r (type_at types ty))
argument_shows names types rest ty (abs name ts sigil) e p = record { parts = ap (λ r. r ∷ type_at types ty ∷ []) e; its_names = refl; its_label = refl }
argument_shows names types rest ty (var n) e p = absurd (true≢false (sym p))
argument_shows names types rest ty (seen n) e p = absurd (true≢false (sym p))
argument_shows names types rest ty unit e p = absurd (true≢false (sym p))
argument_shows names types rest ty (word w) e p = absurd (true≢false (sym p))
argument_shows names types rest ty bool e p = absurd (true≢false (sym p))
argument_shows names types rest ty (arrow a b) e p = absurd (true≢false (sym p))
argument_shows names types rest ty (variant ps) e p = absurd (true≢false (sym p))
argument_shows names types rest ty (fields ps sigil) e p = absurd (true≢false (sym p))

part_shows : (names : List (List ℕ)) (types : List Tau) (rest name ty : ℕ) (taken : Bool) (r : Tau) → r ≡ type_at types rest → IsTrue (has_parts r) → Shows names types (node.Part rest name ty taken) (with_part r (name_at names name) (type_at types ty) taken)
part_shows names types rest name ty taken (variant ps) e p = record { parts = ap (λ r. r ∷ type_at types ty ∷ []) e; its_names = refl; its_label = refl }
part_shows names types rest name ty taken (fields ps sigil) e p = record { parts = ap (λ r. r ∷ type_at types ty ∷ []) e; its_names = refl; its_label = refl }
part_shows names types rest name ty taken (var n) e p = absurd (true≢false (sym p))
part_shows names types rest name ty taken (seen n) e p = absurd (true≢false (sym p))
part_shows names types rest name ty taken unit e p = absurd (true≢false (sym p))
part_shows names types rest name ty taken (word w) e p = absurd (true≢false (sym p))
part_shows names types rest name ty taken bool e p = absurd (true≢false (sym p))
part_shows names types rest name ty taken (arrow a b) e p = absurd (true≢false (sym p))
part_shows names types rest name ty taken (abs x ts sigil) e p = absurd (true≢false (sym p))

made_shows : (names : List (List ℕ)) (types : List Tau) (n : Node) → Fits names types n → Shows names types n (made names types n)
made_shows names types node.Unit f = record { parts = refl; its_names = refl; its_label = refl }
made_shows names types (node.Word w) f = record { parts = refl; its_names = refl; its_label = refl }
made_shows names types node.Bool f = record { parts = refl; its_names = refl; its_label = refl }
made_shows names types (node.Arrow from to) f = record { parts = refl; its_names = refl; its_label = refl }
made_shows names types (node.Abs name sigil) f = record { parts = refl; its_names = refl; its_label = refl }
made_shows names types (node.Argument rest ty) f = argument_shows names types rest ty (type_at types rest) refl f.2
made_shows names types node.Variant f = record { parts = refl; its_names = refl; its_label = refl }
made_shows names types (node.Record sigil) f = record { parts = refl; its_names = refl; its_label = refl }
made_shows names types (node.Part rest name ty taken) f = part_shows names types rest name ty taken (type_at types rest) refl f.2

-- ---- where each stands once, places that show the same are the same

places_same : {A : Type 0} (xs : List A) (at : ℕ → A) → ((i : ℕ) → i < length xs → slice_get xs i ≡ Some (at i)) → IsOnce xs →
    (is js : List ℕ) → Each (λ i. i < length xs) is → Each (λ i. i < length xs) js → map at is ≡ map at js → is ≡ js
places_same xs at there once [] [] p q e = refl
places_same xs at there once [] (j ∷ js) p q e = absurd (grind arith)
places_same xs at there once (i ∷ is) [] p q e = absurd (grind arith)
places_same xs at there once (i ∷ is) (j ∷ js) p q e =
    let first : at i ≡ at j = grind arith in
    let others : map at is ≡ map at js = grind arith in
    let same = once i j (at j) (there i p.0 ∙ ap Some first) (there j q.0) in
    cc (same, places_same xs at there once is js p.1 q.1 others)

name_within : (names : List (List ℕ)) (i : ℕ) → i < length names → slice_get names i ≡ Some (name_at names i)
name_within names i within = let e = slice_get-get_or names i [] within in e ∙ ap Some (sym (ap or_empty e))

pub made_same : (names : List (List ℕ)) (types : List Tau) → IsOnce names → IsOnce types → (a b : Node) → Fits names types a → Fits names types b → made names types a ≡ made names types b → a ≡ b
made_same names types names_once once a b fa fb e =
    let sa = made_shows names types a fa in
    let sb = made_shows names types b fb in
    same_node a b (sym sa.its_label ∙ ap label_in e ∙ sb.its_label)
    (places_same types (type_at types) (type_within types) once (parts_of a) (parts_of b) fa.0 fb.0 (sym sa.parts ∙ ap parts_in e ∙ sb.parts))
    (places_same names (name_at names) (name_within names) names_once (names_of a) (names_of b) fa.1 fb.1 (sym sa.its_names ∙ ap names_in e ∙ sb.its_names))

-- ---- as names and types grow, a node makes the same type

within_kept : (m n : ℕ) → m ≤ n → (is : List ℕ) → Each (λ i. i < m) is → Each (λ i. i < n) is
within_kept m n le [] p = tt
within_kept m n le (i ∷ is) p = (omega arith, within_kept m n le is p.1)

name_kept : (old new : List (List ℕ)) → Keeps old new → (i : ℕ) → i < length old → name_at new i ≡ name_at old i
name_kept old new k i within = ap or_empty (keeps_get old new k i (name_at old i) (name_within old i within))

pub made_kept : (names names' : List (List ℕ)) (types types' : List Tau) → Keeps names names' → Keeps types types' → (n : Node) → Fits names types n →
    made names' types' n ≡ made names types n
made_kept names names' types types' kn kt node.Unit f = refl
made_kept names names' types types' kn kt (node.Word w) f = refl
made_kept names names' types types' kn kt node.Bool f = refl
made_kept names names' types types' kn kt (node.Arrow from to) f = cc (type_kept types types' kt from f.0.0, type_kept types types' kt to f.0.1.0)
made_kept names names' types types' kn kt (node.Abs name sigil) f = ap (λ x. abs x none sigil) (name_kept names names' kn name f.1.0)
made_kept names names' types types' kn kt (node.Argument rest ty) f = cc (type_kept types types' kt rest f.0.0, type_kept types types' kt ty f.0.1.0)
made_kept names names' types types' kn kt node.Variant f = refl
made_kept names names' types types' kn kt (node.Record sigil) f = refl
made_kept names names' types types' kn kt (node.Part rest name ty taken) f =
    cc (type_kept types types' kt rest f.0.0, name_kept names names' kn name f.1.0, type_kept types types' kt ty f.0.1.0)

pub made_after : (names names' : List (List ℕ)) (types types' : List Tau) → names' ≡ names → Keeps types types' → (n : Node) → Fits names types n →
    made names' types' n ≡ made names types n
made_after names names' types types' same kept n fits = ap (λ ns. made ns types' n) same ∙ made_kept names names types types' (keeps_same names) kept n fits

formed_kept : (types types' : List Tau) → Keeps types types' → (n : Node) → Each (λ i. i < length types) (parts_of n) → is_formed types' n ≡ is_formed types n
formed_kept types types' kt node.Unit f = refl
formed_kept types types' kt (node.Word w) f = refl
formed_kept types types' kt node.Bool f = refl
formed_kept types types' kt (node.Arrow from to) f = refl
formed_kept types types' kt (node.Abs name sigil) f = refl
formed_kept types types' kt (node.Argument rest ty) f = ap is_abs (type_kept types types' kt rest f.0)
formed_kept types types' kt node.Variant f = refl
formed_kept types types' kt (node.Record sigil) f = refl
formed_kept types types' kt (node.Part rest name ty taken) f = ap has_parts (type_kept types types' kt rest f.0)

pub fits_kept : (names names' : List (List ℕ)) (types types' : List Tau) → Keeps names names' → Keeps types types' → (n : Node) → Fits names types n → Fits names' types' n
fits_kept names names' types types' kn kt n f = (
  within_kept (length types) (length types') (keeps_length types types' kt) (parts_of n) f.0,
  within_kept (length names) (length names') (keeps_length names names' kn) (names_of n) f.1,
  formed_kept types types' kt n f.0 ∙ f.2,
)

-- ---- the types of nodes

types_more : (names : List (List ℕ)) (types : List Tau) (ns : List Node) (n : Node) →
    fold (λ types n. types ++ made names types n ∷ []) types (ns ++ n ∷ []) ≡
    fold (λ types n. types ++ made names types n ∷ []) types ns ++ made names (fold (λ types n. types ++ made names types n ∷ []) types ns) n ∷ []
types_more names types [] n = refl
types_more names types (m ∷ ms) n = types_more names (types ++ made names types m ∷ []) ms n

pub types_push : (names : List (List ℕ)) (ns : List Node) (n : Node) → types_of names (ns ++ n ∷ []) ≡ types_of names ns ++ made names (types_of names ns) n ∷ []
types_push names ns n = types_more names [] ns n

length_more : (names : List (List ℕ)) (types : List Tau) (ns : List Node) → length (fold (λ types n. types ++ made names types n ∷ []) types ns) ≡ length types + length ns
length_more names types [] = omega arith
length_more names types (n ∷ ns) =
    let rest = length_more names (types ++ made names types n ∷ []) ns in
    let one : length (types ++ made names types n ∷ []) ≡ length types + 1 = length-append types (made names types n ∷ []) in
    grind arith

pub length_types : (names : List (List ℕ)) (ns : List Node) → length (types_of names ns) ≡ length ns
length_types names ns = length_more names [] ns ∙ zero-add (length ns)

-- names that are added change no type
renamed_node : (names names' : List (List ℕ)) (types : List Tau) → Keeps names names' → (n : Node) → Each (λ i. i < length names) (names_of n) → made names' types n ≡ made names types n
renamed_node names names' types kn node.Unit f = refl
renamed_node names names' types kn (node.Word w) f = refl
renamed_node names names' types kn node.Bool f = refl
renamed_node names names' types kn (node.Arrow from to) f = refl
renamed_node names names' types kn (node.Abs name sigil) f = ap (λ x. abs x none sigil) (name_kept names names' kn name f.0)
renamed_node names names' types kn (node.Argument rest ty) f = refl
renamed_node names names' types kn node.Variant f = refl
renamed_node names names' types kn (node.Record sigil) f = refl
renamed_node names names' types kn (node.Part rest name ty taken) f = ap (λ x. with_part (type_at types rest) x (type_at types ty) taken) (name_kept names names' kn name f.0)

renamed_more : (names names' : List (List ℕ)) → Keeps names names' → (types : List Tau) (ns : List Node) → ((i : ℕ) (n : Node) → slice_get ns i ≡ Some n → Each (λ i. i < length names) (names_of n)) →
    fold (λ types n. types ++ made names' types n ∷ []) types ns ≡ fold (λ types n. types ++ made names types n ∷ []) types ns
renamed_more names names' kn types [] f = refl
renamed_more names names' kn types (n ∷ ns) f =
    ap (λ t. fold (λ types n. types ++ made names' types n ∷ []) (types ++ t ∷ []) ns) (renamed_node names names' types kn n (f 0 n refl))
    ∙ renamed_more names names' kn (types ++ made names types n ∷ []) ns (λ i m e. f (suc i) m e)

pub renamed : (names names' : List (List ℕ)) → Keeps names names' → (rows : List (Node × Fact)) → IsSound names rows →
    types_of names' (map (λ r. r.0) rows) ≡ types_of names (map (λ r. r.0) rows)
renamed names names' kn rows sound = renamed_more names names' kn [] (map (λ r. r.0) rows) (λ i n e. (sound.fits i n e).1)

-- ---- the parts of a type that is made are there
