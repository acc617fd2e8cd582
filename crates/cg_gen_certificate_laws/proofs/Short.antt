-- How many bytes the certificate of the kernel has.
use Rattle.std.proofs.Common.{◌≡◌, ◌<◌, ◌≤◌, ◌+◌, ◌*◌, ℕ, zero, suc, List, [], ◌∷◌, ◌++◌, length, Option, Some, None, arith, length-append, codes, map}
use Rattle.std.proofs.lemmas.Fmt.{length-decimal-le}
use Rattle.cg_base.specs.Types.{Tau}
use Rattle.cg_cert.specs.declared.cert.CertNode.{CertNode}
use Rattle.cg_cert.specs.Certificates.{functions_of, nodes_of}
use Rattle.cg_cert.specs.Texts.{all_lines, fun_lines, node_lines}
use Rattle.cg_core.specs.Derivations.{Derivation}
use Rattle.cg_core.specs.Kernels.{Function}
use Rattle.cg_check_def.specs.Kept.{function_tree}
use Rattle.cg_check_def.specs.NormalForm.{tree}
use Rattle.cg_gen.specs.Generated.{name}
use Rattle.cg_gen_def.specs.Kernels.{body_in, cell_type, function_behind, functions, subject_in, term_behind}
use Rattle.cg_gen_certificate_laws.specs.Laws.{CertificateIsShort}

-- ---- the lines of functions, one after another

-- how many bytes the lines of a function with this derivation have
abbrev one_length : Function → Option Derivation → ℕ
one_length f None = 0
one_length f (Some d) = length (fun_lines (record { name = f.at.name; nodes = nodes_of d }))

-- how many bytes the lines of functions have, whose derivations these are
abbrev lines_length : (Function → Option Derivation) → List Function → ℕ
lines_length h fs = length (all_lines (functions_of fs (map h fs)))

first_with : (f : Function) (o : Option Derivation) (h : Function → Option Derivation) (fs : List Function)
    → length (all_lines (functions_of (f ∷ fs) (o ∷ map h fs))) ≡ one_length f o + lines_length h fs
first_with f None h fs = omega arith
first_with f (Some d) h fs = length-append (fun_lines (record { name = f.at.name; nodes = nodes_of d })) (all_lines (functions_of fs (map h fs)))

first_apart : (h : Function → Option Derivation) (f : Function) (fs : List Function) → lines_length h (f ∷ fs) ≡ one_length f (h f) + lines_length h fs
first_apart h f fs = first_with f (h f) h fs

last_apart : (h : Function → Option Derivation) (fs : List Function) (f : Function) → lines_length h (fs ++ f ∷ []) ≡ lines_length h fs + one_length f (h f)
last_apart h [] f = let e = first_apart h f [] in omega (arith, e)
last_apart h (g ∷ fs) f =
    let e = last_apart h fs f in
    let a = first_apart h g (fs ++ f ∷ []) in
    let b = first_apart h g fs in
    omega (arith, e, a, b)

-- ---- the lines of one

-- the name has five bytes at most
name_short : (i : ℕ) → i < 10000 → length (name i) ≤ 5
unfolding name
name_short i lt = let e = length-decimal-le 4 i (omega arith) (omega (arith, lt)) (omega (arith, lt)) in omega (arith, e)

-- the lines of its nodes have 59 at most
nodes_short : (all : List Function) (t : Tau) (before : ℕ) → length (node_lines (nodes_of (tree all (Some t ∷ []) (t ∷ []) (term_behind before)))) ≤ 59
unfolding body_in subject_in
nodes_short all t zero = omega arith
nodes_short all t (suc before) = omega arith

-- those of the name and the nodes together
lines_short : (n : List ℕ) (nodes : List CertNode) → length n ≤ 5 → length (node_lines nodes) ≤ 59 → length (fun_lines (record { name = n; nodes = nodes })) ≤ 69
lines_short n nodes a b =
    let e = length-append (codes "fun ") (n ++ (codes "\n" ++ node_lines nodes)) in
    let f = length-append n (codes "\n" ++ node_lines nodes) in
    let g = length-append (codes "\n") (node_lines nodes) in
    omega (arith, e, f, g, a, b)

-- so those of a function have 69 at most
function_short : (all : List Function) (before : ℕ) → before < 4096 → one_length (function_behind before) (function_tree all (function_behind before)) ≤ 69
unfolding function_behind
function_short all before lt =
    lines_short (name (before + 1)) (nodes_of (tree all (Some cell_type ∷ []) (cell_type ∷ []) (term_behind before))) (name_short (before + 1) (omega (arith, lt)))
    (nodes_short all cell_type before)

-- ---- the text

-- the lines of all functions have 69 times their number at most
functions_short : (all : List Function) (n : ℕ) → n ≤ 4096 → lines_length (function_tree all) (functions n) ≤ n * 69
unfolding functions
functions_short all zero le = omega arith
functions_short all (suc n) le =
    let e = functions_short all n (omega (arith, le)) in
    let f = function_short all n (omega (arith, le)) in
    let g = last_apart (function_tree all) (functions n) (function_behind n) in
    omega (arith, e, f, g)

-- the first line and the last one have 25 bytes
text_length : (lines : List ℕ) → length (codes "cogent certificate 1\n" ++ (lines ++ codes "end\n")) ≡ length lines + 25
text_length lines =
    let e = length-append (codes "cogent certificate 1\n") (lines ++ codes "end\n") in
    let f = length-append lines (codes "end\n") in
    omega (arith, e, f)

pub certificate_is_short : CertificateIsShort
certificate_is_short n le =
    let e = text_length (all_lines (functions_of (functions n) (map (function_tree (functions n)) (functions n)))) in
    let f = functions_short (functions n) n le in
    omega (arith, e, f, le)
