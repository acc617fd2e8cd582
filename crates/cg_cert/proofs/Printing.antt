-- What is printed part by part is the text.
use Rattle.std.proofs.Common.{◌≡◌, ℕ, zero, suc, ◌+◌, ◌<◌, ◌≤◌, List, [], ◌∷◌, ◌++◌, length, drop, get_or, map, codes, Option, Some, None, arith, refl, sym, ap, ◌∙◌, append_assoc}
use Rattle.std.specs.List.{flat_map}
use Rattle.std.proofs.lemmas.List.{append-nil, drop_all}
use Rattle.cg_core.proofs.Views.{derivation_is}
use Rattle.cg_core.specs.Derivations.{Derivation, to_derivations, derivation_of}
use Rattle.cg_core.specs.declared.derivation.Deriv.{Deriv, out-Deriv}
use Rattle.cg_core.specs.declared.derivation.Mark.{Mark}
use Rattle.cg_core.specs.declared.kernel.KFun.{KFun}
use Rattle.cg_core.specs.Kernels.{Function, function_of}
use Rattle.cg_typing.specs.Holds.{kept_at}
use Rattle.cg_typing.specs.Kept.{maybe_tree}
use Rattle.cg_cert.specs.Certificates.{nodes_of, nodes_in}
use Rattle.cg_cert.specs.Printed.{string_text, tree_text, function_text, functions_text}
use Rattle.cg_cert.specs.Texts.{mark_sign, strings_text, node_line, node_lines}
use Rattle.cg_cert.specs.declared.cert.CertNode.{CertNode}

pub strings_are : (strings : List (List Mark)) → strings_text strings ≡ flat_map string_text strings
strings_are [] = refl
strings_are (string ∷ strings) = ap (λ z. codes " " ++ (map mark_sign string ++ z)) (strings_are strings)

lines_append : (ns ms : List CertNode) → node_lines (ns ++ ms) ≡ node_lines ns ++ node_lines ms
lines_append [] ms = refl
lines_append (n ∷ ns) ms = ap (λ z. node_line n ++ z) (lines_append ns ms) ∙ sym (append_assoc (node_line n) (node_lines ns) (node_lines ms))

trees_are : (ds : List Derivation) → node_lines (nodes_in (to_derivations ds)) ≡ flat_map tree_text ds
unfolding to_derivations
trees_are [] = refl
trees_are (d ∷ ds) = lines_append (nodes_of d) (nodes_in (to_derivations ds)) ∙ ap (λ z. tree_text d ++ z) (trees_are ds)

pub tree_is : (d : Deriv) → tree_text (derivation_of d) ≡ node_line (record { node = (out-Deriv d).node; marks = (out-Deriv d).marks }) ++ flat_map tree_text (map derivation_of (out-Deriv d).parts)
tree_is d =
    ap tree_text (derivation_is d)
    ∙ ap (λ z. node_line (record { node = (out-Deriv d).node; marks = (out-Deriv d).marks }) ++ z) (trees_are (map derivation_of (out-Deriv d).parts))

-- ---- functions

no_derivation : (fs : List Function) → functions_text fs [] ≡ []
no_derivation [] = refl
no_derivation (f ∷ fs) = refl

first_function : (f : Function) (fs : List Function) (tree : Option Derivation) (trees : List (Option Derivation)) → functions_text (f ∷ fs) (tree ∷ trees) ≡ function_text f.at.name tree ++ functions_text fs trees
first_function f fs None trees = refl
first_function f fs (Some tree) trees = refl

function_next : (fs : List KFun) (ds : List (Option Deriv)) (i : ℕ) (f : KFun) → i < length fs
    → functions_text (map function_of (drop i fs)) (map maybe_tree (drop i ds))
    ≡ function_text (get_or fs i f).at.name (maybe_tree (kept_at ds i)) ++ functions_text (map function_of (drop (suc i) fs)) (map maybe_tree (drop (suc i) ds))
function_next [] ds i f l = absurd (omega (arith, l))
function_next (g ∷ fs) [] zero f l = no_derivation (map function_of (g ∷ fs)) ∙ sym (no_derivation (map function_of fs))
function_next (g ∷ fs) [] (suc i) f l = no_derivation (map function_of (drop i fs)) ∙ sym (no_derivation (map function_of (drop (suc i) fs)))
function_next (g ∷ fs) (d ∷ ds) zero f l = first_function (function_of g) (map function_of fs) (maybe_tree d) (map maybe_tree ds)
function_next (g ∷ fs) (d ∷ ds) (suc i) f l = function_next fs ds i f (omega (arith, l))

-- one function more is printed
pub function_printed : (fs : List KFun) (ds : List (Option Deriv)) (i : ℕ) (f : KFun) (before after all : List ℕ) → i < length fs → f ≡ get_or fs i f
    → before ++ functions_text (map function_of (drop i fs)) (map maybe_tree (drop i ds)) ≡ all → after ≡ before ++ function_text f.at.name (maybe_tree (kept_at ds i))
    → after ++ functions_text (map function_of (drop (i + 1) fs)) (map maybe_tree (drop (i + 1) ds)) ≡ all
function_printed fs ds i f before after all l is h e =
    let rest : List ℕ = functions_text (map function_of (drop (suc i) fs)) (map maybe_tree (drop (suc i) ds)) in
    ap (λ k. after ++ functions_text (map function_of (drop k fs)) (map maybe_tree (drop k ds))) (one_on i)
    ∙ ap (λ z. z ++ rest) e
    ∙ append_assoc before (function_text f.at.name (maybe_tree (kept_at ds i))) rest
    ∙ ap (λ (g : KFun). before ++ (function_text g.at.name (maybe_tree (kept_at ds i)) ++ rest)) is
    ∙ ap (λ z. before ++ z) (sym (function_next fs ds i f l))
    ∙ h
  where
    one_on : (i : ℕ) → i + 1 ≡ suc i
    one_on i = omega arith

-- behind the last function
pub functions_printed : (fs : List KFun) (ds : List (Option Deriv)) (i : ℕ) (text all : List ℕ) → length fs ≤ i → text ++ functions_text (map function_of (drop i fs)) (map maybe_tree (drop i ds)) ≡ all → text ≡ all
functions_printed fs ds i text all l h =
    sym (append-nil text) ∙ ap (λ z. text ++ functions_text (map function_of z) (map maybe_tree (drop i ds))) (sym (drop_all i fs l)) ∙ h

pub ruleset printing = (strings_are, tree_is)
