-- Sources and what the reference makes of them.
use Rattle.std.proofs.Common.{◌≡◌, ℕ, true, false, List, [], ◌∷◌, Option, Some, None, refl}
use Rattle.std.specs.Fmt.{digits}
use Rattle.std.specs.Prelude.{codes}
use Rattle.cg_base.specs.declared.fun.Fun.TheVariants.{User, Lib as OfLib}
use Rattle.cg_base.specs.declared.fun.Lib.TheVariants as libs
use Rattle.cg_base.specs.declared.kind.Word.TheVariants.{U8, U32}
use Rattle.cg_base.specs.declared.kind.Sigil.TheVariants.{W, U}
use Rattle.cg_base.specs.declared.place.Place.{Place}
use Rattle.cg_base.specs.Types as kernel
use Rattle.cg_core.specs.declared.at.At.{At}
use Rattle.cg_core.specs.declared.op.Op.TheVariants as ops
use Rattle.cg_core.specs.Terms.{term, var, unit, bool, lit, fun, op, app, lets, let_bang, if_else, con, case_of, esac, struct, member, take_field, put, cast, annot, none, more, end, field}
use Rattle.cg_kinds.specs.Kinds.{bang, subst}
use Rattle.cg_surface.specs.Written as types
use Rattle.cg_surface.specs.Patterns as patterns
use Rattle.cg_surface.specs.Exprs as exprs
use Rattle.cg_surface.specs.Programs.{Entry, synonym, abstract, signature, define}
use Rattle.cg_resolve_def.specs.Desugar.{functions_of}
use Rattle.cg_resolve_def.specs.Expand.{bodies_to}
use Rattle.cg_resolve_def.specs.Faults.{unknown, twice, arguments, program_faults}
use Rattle.cg_resolve_def.specs.Takes.{missing_fields}

abbrev place : ℕ → ℕ → Place
place l c = record { line = l; column = c }

abbrev named : ℕ → ℕ → List ℕ → At
named l c n = record { place = place l c; name = n }

abbrev first : {A : Type 0} → List A → Option A
first [] = None
first (x ∷ xs) = Some x

abbrev p0 : List Entry
p0 =
    synonym (named 1 6 (codes "Cell")) ([]) (types.fields (place 1 13) true (types.and_field (types.and_field types.no_fields (named 1 14 (codes "val")) (types.named (place 1 20) (codes "U32") types.no_types)) (named 1 25 (codes "tag")) (types.named (place 1 31) (codes "U8") types.no_types)))
    ∷ signature (named 2 1 (codes "bump")) ([]) ([]) (types.arrow (place 2 8) (types.named (place 2 8) (codes "Cell") types.no_types) (types.named (place 2 16) (codes "Cell") types.no_types))
    ∷ define (named 3 1 (codes "bump")) (patterns.name (place 3 6) (codes "c")) (exprs.lets (place 3 10) (exprs.and_bind exprs.no_binds (patterns.take (place 3 14) (codes "c'") (patterns.and_field patterns.no_fields (named 3 18 (codes "val")) (patterns.name (place 3 24) (codes "v")))) (exprs.name (place 3 29) (codes "c") types.no_types) ([])) (exprs.put (place 3 34) (exprs.name (place 3 34) (codes "c'") types.no_types) (exprs.and_field exprs.no_fields (named 3 38 (codes "val")) (exprs.binary (place 3 46) ops.Add (exprs.name (place 3 44) (codes "v") types.no_types) (exprs.number (place 3 48) (Some 1))))))
    ∷ []

names0 : program_faults p0 ≡ []
names0 = refl

takes0 : missing_fields p0 ≡ []
unfolding kernel.to_parts kernel.to_taus bodies_to subst bang digits
takes0 = refl

kernel0 : functions_of p0 ≡ (record { at = (named 2 1 (codes "bump")); vars = ([]); ty = record { place = (place 2 8); ty = (kernel.arrow (kernel.fields (kernel.part (codes "val") (kernel.word U32) false (kernel.part (codes "tag") (kernel.word U8) false kernel.end)) W) (kernel.fields (kernel.part (codes "val") (kernel.word U32) false (kernel.part (codes "tag") (kernel.word U8) false kernel.end)) W)) }; body = Some (record { param = (place 3 6); term = (term (place 3 14) (take_field (term (place 3 29) (var 0)) (named 3 18 (codes "val")) (place 3 14) (place 3 24) (term (place 3 34) (put (term (place 3 34) (var 1)) (named 3 38 (codes "val")) (term (place 3 46) (op ops.Add (more (term (place 3 44) (var 2)) (more (term (place 3 48) (lit (Some 1))) none)))))))) }) } ∷ [])
unfolding kernel.to_parts kernel.to_taus bodies_to subst bang digits
kernel0 = refl

abbrev p1 : List Entry
p1 =
    synonym (named 1 6 (codes "V")) ([]) (types.variant (place 1 10) (types.and_plain (types.and_alt types.no_alts (named 1 11 (codes "A")) (types.variant (place 1 13) (types.and_plain (types.and_plain types.no_alts (named 1 14 (codes "C"))) (named 1 18 (codes "D"))))) (named 1 23 (codes "B"))))
    ∷ signature (named 2 1 (codes "f")) ([]) ([]) (types.arrow (place 2 5) (types.named (place 2 5) (codes "V") types.no_types) (types.named (place 2 10) (codes "U8") types.no_types))
    ∷ define (named 3 1 (codes "f")) (patterns.name (place 3 3) (codes "v")) (exprs.match_of (place 3 7) (exprs.name (place 3 7) (codes "v") types.no_types) ([]) (exprs.and_alt (exprs.and_alt exprs.no_alts (place 4 5) (Some (codes "A")) (patterns.name (place 4 7) (codes "w")) (exprs.match_of (place 4 12) (exprs.name (place 4 12) (codes "w") types.no_types) ([]) (exprs.and_alt (exprs.and_alt exprs.no_alts (place 5 7) (Some (codes "C")) (patterns.unit (place 5 7)) (exprs.number (place 5 12) (Some 1))) (place 6 7) (Some (codes "D")) (patterns.unit (place 6 7)) (exprs.number (place 6 12) (Some 2))))) (place 7 5) (Some (codes "B")) (patterns.unit (place 7 5)) (exprs.number (place 7 10) (Some 3))))
    ∷ []

names1 : program_faults p1 ≡ []
names1 = refl

takes1 : missing_fields p1 ≡ []
unfolding kernel.to_parts kernel.to_taus bodies_to subst bang digits
takes1 = refl

kernel1 : functions_of p1 ≡ (record { at = (named 2 1 (codes "f")); vars = ([]); ty = record { place = (place 2 5); ty = (kernel.arrow (kernel.variant (kernel.part (codes "A") (kernel.variant (kernel.part (codes "C") kernel.unit false (kernel.part (codes "D") kernel.unit false kernel.end))) false (kernel.part (codes "B") kernel.unit false kernel.end))) (kernel.word U8)) }; body = Some (record { param = (place 3 3); term = (term (place 4 5) (case_of (term (place 3 7) (var 0)) (named 4 5 (codes "A")) (place 4 7) (term (place 5 7) (case_of (term (place 4 12) (var 1)) (named 5 7 (codes "C")) (place 5 7) (term (place 5 7) (lets (place 5 7) (term (place 5 7) (annot (term (place 5 7) (var 2)) (record { place = (place 5 7); ty = kernel.unit }))) (term (place 5 12) (lit (Some 1))))) (term (place 6 7) (lets (place 6 7) (term (place 6 7) (annot (term (place 6 7) (esac (named 6 7 (codes "D")) (term (place 5 7) (var 2)))) (record { place = (place 6 7); ty = kernel.unit }))) (term (place 6 12) (lit (Some 2))))))) (term (place 7 5) (lets (place 7 5) (term (place 7 5) (annot (term (place 7 5) (esac (named 7 5 (codes "B")) (term (place 4 5) (var 1)))) (record { place = (place 7 5); ty = kernel.unit }))) (term (place 7 10) (lit (Some 3))))))) }) } ∷ [])
unfolding kernel.to_parts kernel.to_taus bodies_to subst bang digits
kernel1 = refl

abbrev p2 : List Entry
p2 =
    signature (named 1 1 (codes "f")) ([]) ([]) (types.arrow (place 1 5) (types.tuple (place 1 5) (types.and_type (types.and_type types.no_types (types.named (place 1 6) (codes "U8") types.no_types)) (types.tuple (place 1 10) (types.and_type (types.and_type types.no_types (types.named (place 1 11) (codes "U8") types.no_types)) (types.named (place 1 15) (codes "Bool") types.no_types))))) (types.named (place 1 25) (codes "U8") types.no_types))
    ∷ define (named 2 1 (codes "f")) (patterns.tuple (place 2 3) (patterns.and_pattern (patterns.and_pattern patterns.no_patterns (patterns.name (place 2 4) (codes "a"))) (patterns.tuple (place 2 7) (patterns.and_pattern (patterns.and_pattern patterns.no_patterns (patterns.name (place 2 8) (codes "b"))) (patterns.any (place 2 11)))))) (exprs.lets (place 2 17) (exprs.and_bind (exprs.and_bind exprs.no_binds (patterns.tuple (place 2 21) (patterns.and_pattern (patterns.and_pattern patterns.no_patterns (patterns.name (place 2 22) (codes "c"))) (patterns.name (place 2 25) (codes "d")))) (exprs.tuple (place 2 30) (exprs.and_expr (exprs.and_expr exprs.no_exprs (exprs.name (place 2 31) (codes "a") types.no_types)) (exprs.name (place 2 34) (codes "b") types.no_types))) ([])) (patterns.unit (place 2 41)) (exprs.unit (place 2 46)) ([])) (exprs.if_else (place 2 52) (exprs.binary (place 2 57) ops.Eq (exprs.name (place 2 55) (codes "a") types.no_types) (exprs.name (place 2 60) (codes "c") types.no_types)) ([]) (exprs.name (place 2 67) (codes "d") types.no_types) (exprs.upcast (place 2 74) (exprs.number (place 2 81) (Some 1)))))
    ∷ []

names2 : program_faults p2 ≡ []
names2 = refl

takes2 : missing_fields p2 ≡ []
unfolding kernel.to_parts kernel.to_taus bodies_to subst bang digits
takes2 = refl

kernel2 : functions_of p2 ≡ (record { at = (named 1 1 (codes "f")); vars = ([]); ty = record { place = (place 1 5); ty = (kernel.arrow (kernel.fields (kernel.part (codes "p1") (kernel.word U8) false (kernel.part (codes "p2") (kernel.fields (kernel.part (codes "p1") (kernel.word U8) false (kernel.part (codes "p2") kernel.bool false kernel.end)) U) false kernel.end)) U) (kernel.word U8)) }; body = Some (record { param = (place 2 3); term = (term (place 2 3) (take_field (term (place 2 3) (var 0)) (named 2 4 (codes "p1")) (place 2 3) (place 2 4) (term (place 2 3) (take_field (term (place 2 3) (var 1)) (named 2 7 (codes "p2")) (place 2 3) (place 2 7) (term (place 2 7) (take_field (term (place 2 7) (var 4)) (named 2 8 (codes "p1")) (place 2 7) (place 2 8) (term (place 2 7) (take_field (term (place 2 7) (var 5)) (named 2 11 (codes "p2")) (place 2 7) (place 2 11) (term (place 2 11) (lets (place 2 11) (term (place 2 11) (var 8)) (term (place 2 21) (take_field (term (place 2 30) (struct (field (codes "p1") (term (place 2 31) (var 2)) (field (codes "p2") (term (place 2 34) (var 6)) end)))) (named 2 22 (codes "p1")) (place 2 21) (place 2 22) (term (place 2 21) (take_field (term (place 2 21) (var 10)) (named 2 25 (codes "p2")) (place 2 21) (place 2 25) (term (place 2 41) (lets (place 2 41) (term (place 2 41) (annot (term (place 2 46) unit) (record { place = (place 2 41); ty = kernel.unit }))) (term (place 2 52) (if_else (term (place 2 57) (op ops.Eq (more (term (place 2 55) (var 2)) (more (term (place 2 60) (var 11)) none)))) (term (place 2 67) (var 13)) (term (place 2 74) (cast (term (place 2 81) (lit (Some 1))))))))))))))))))))))) }) } ∷ [])
unfolding kernel.to_parts kernel.to_taus bodies_to subst bang digits
kernel2 = refl

abbrev p3 : List Entry
p3 =
    synonym (named 1 6 (codes "P")) ((named 1 8 (codes "a")) ∷ (named 1 10 (codes "b")) ∷ []) (types.fields (place 1 14) false (types.and_field (types.and_field types.no_fields (named 1 16 (codes "l")) (types.named (place 1 20) (codes "a") types.no_types)) (named 1 23 (codes "r")) (types.bang (place 1 27) (types.named (place 1 27) (codes "b") types.no_types))))
    ∷ signature (named 2 1 (codes "f")) ((record { name = codes "x"; kinds = (record { drop = false; share = false; escape = false }) }) ∷ (record { name = codes "y"; kinds = (record { drop = true; share = true; escape = false }) }) ∷ []) ((place 2 10) ∷ (place 2 13) ∷ []) (types.arrow (place 2 23) (types.take_some (place 2 23) (types.named (place 2 23) (codes "P") (types.and_type (types.and_type types.no_types (types.named (place 2 25) (codes "x") types.no_types)) (types.paren (place 2 27) (types.named (place 2 28) (codes "P") (types.and_type (types.and_type types.no_types (types.named (place 2 30) (codes "y") types.no_types)) (types.named (place 2 32) (codes "U8") types.no_types)))))) ((named 2 42 (codes "l")) ∷ [])) (types.variant (place 2 48) (types.and_alt (types.and_plain (types.and_alt types.no_alts (named 2 49 (codes "Zed")) (types.named (place 2 53) (codes "x") types.no_types)) (named 2 57 (codes "Ab"))) (named 2 62 (codes "Mid")) (types.named (place 2 66) (codes "y") types.no_types))))
    ∷ define (named 3 1 (codes "f")) (patterns.fields (place 3 3) (patterns.and_field patterns.no_fields (named 3 5 (codes "r")) (patterns.fields (place 3 9) (patterns.and_field patterns.no_fields (named 3 11 (codes "r")) (patterns.name (place 3 11) (codes "r")))))) (exprs.sig (place 3 17) (exprs.con_of (place 3 18) (codes "Mid") (exprs.name (place 3 22) (codes "r") types.no_types)) (types.variant (place 3 26) (types.and_alt (types.and_plain (types.and_alt types.no_alts (named 3 27 (codes "Zed")) (types.named (place 3 31) (codes "x") types.no_types)) (named 3 35 (codes "Ab"))) (named 3 40 (codes "Mid")) (types.named (place 3 44) (codes "y") types.no_types))))
    ∷ signature (named 4 1 (codes "g")) ([]) ([]) (types.arrow (place 4 5) (types.named (place 4 5) (codes "U8") types.no_types) (types.named (place 4 11) (codes "U8") types.no_types))
    ∷ define (named 5 1 (codes "g")) (patterns.name (place 5 3) (codes "x")) (exprs.app (place 5 7) (exprs.name (place 5 7) (codes "f") (types.and_type (types.and_type types.no_types (types.named (place 5 9) (codes "U8") types.no_types)) (types.named (place 5 13) (codes "Bool") types.no_types))) (exprs.member (place 5 19) (exprs.paren (place 5 19) (exprs.app (place 5 20) (exprs.name (place 5 20) (codes "h") types.no_types) (exprs.name (place 5 22) (codes "x") types.no_types))) (named 5 25 (codes "y"))))
    ∷ signature (named 6 1 (codes "h")) ([]) ([]) (types.arrow (place 6 5) (types.named (place 6 5) (codes "U8") types.no_types) (types.named (place 6 11) (codes "U8") types.no_types))
    ∷ []

names3 : program_faults p3 ≡ []
names3 = refl

takes3 : missing_fields p3 ≡ []
unfolding kernel.to_parts kernel.to_taus bodies_to subst bang digits
takes3 = refl

kernel3 : functions_of p3 ≡ (record { at = (named 2 1 (codes "f")); vars = ((record { name = codes "x"; kinds = (record { drop = false; share = false; escape = false }) }) ∷ (record { name = codes "y"; kinds = (record { drop = true; share = true; escape = false }) }) ∷ []); ty = record { place = (place 2 23); ty = (kernel.arrow (kernel.fields (kernel.part (codes "l") (kernel.var 0) true (kernel.part (codes "r") (kernel.fields (kernel.part (codes "l") (kernel.seen 1) false (kernel.part (codes "r") (kernel.word U8) false kernel.end)) U) false kernel.end)) U) (kernel.variant (kernel.part (codes "Ab") kernel.unit false (kernel.part (codes "Mid") (kernel.var 1) false (kernel.part (codes "Zed") (kernel.var 0) false kernel.end))))) }; body = Some (record { param = (place 3 3); term = (term (place 3 3) (take_field (term (place 3 3) (var 0)) (named 3 5 (codes "r")) (place 3 3) (place 3 9) (term (place 3 9) (take_field (term (place 3 9) (var 2)) (named 3 11 (codes "r")) (place 3 9) (place 3 11) (term (place 3 17) (annot (term (place 3 18) (con (codes "Mid") (term (place 3 22) (var 4)))) (record { place = (place 3 26); ty = (kernel.variant (kernel.part (codes "Ab") kernel.unit false (kernel.part (codes "Mid") (kernel.var 1) false (kernel.part (codes "Zed") (kernel.var 0) false kernel.end)))) }))))))) }) } ∷ record { at = (named 4 1 (codes "g")); vars = ([]); ty = record { place = (place 4 5); ty = (kernel.arrow (kernel.word U8) (kernel.word U8)) }; body = Some (record { param = (place 5 3); term = (term (place 5 7) (app (term (place 5 7) (fun (User 0) ((record { place = (place 5 9); ty = (kernel.word U8) }) ∷ (record { place = (place 5 13); ty = kernel.bool }) ∷ []))) (term (place 5 19) (member (term (place 5 20) (app (term (place 5 20) (fun (User 2) ([]))) (term (place 5 22) (var 0)))) (named 5 25 (codes "y")))))) }) } ∷ record { at = (named 6 1 (codes "h")); vars = ([]); ty = record { place = (place 6 5); ty = (kernel.arrow (kernel.word U8) (kernel.word U8)) }; body = None } ∷ [])
unfolding kernel.to_parts kernel.to_taus bodies_to subst bang digits
kernel3 = refl

abbrev p4 : List Entry
p4 =
    synonym (named 1 6 (codes "R")) ([]) (types.fields (place 1 10) true (types.and_field types.no_fields (named 1 11 (codes "val")) (types.named (place 1 17) (codes "U32") types.no_types)))
    ∷ signature (named 2 1 (codes "f")) ([]) ([]) (types.arrow (place 2 5) (types.named (place 2 5) (codes "R") types.no_types) (types.named (place 2 10) (codes "U32") types.no_types))
    ∷ define (named 3 1 (codes "f")) (patterns.name (place 3 3) (codes "r")) (exprs.lets (place 3 7) (exprs.and_bind (exprs.and_bind exprs.no_binds (patterns.name (place 3 11) (codes "n")) (exprs.member (place 3 15) (exprs.name (place 3 15) (codes "r") types.no_types) (named 3 17 (codes "val"))) ((named 3 22 (codes "r")) ∷ [])) (patterns.name (place 3 28) (codes "m")) (exprs.paren (place 3 32) (exprs.binary (place 3 39) ops.Add (exprs.member (place 3 33) (exprs.name (place 3 33) (codes "r") types.no_types) (named 3 35 (codes "val"))) (exprs.name (place 3 41) (codes "n") types.no_types))) ((named 3 45 (codes "r")) ∷ (named 3 48 (codes "n")) ∷ [])) (exprs.if_else (place 3 53) (exprs.binary (place 3 58) ops.Lt (exprs.name (place 3 56) (codes "n") types.no_types) (exprs.name (place 3 60) (codes "m") types.no_types)) ((named 3 63 (codes "r")) ∷ []) (exprs.name (place 3 70) (codes "n") types.no_types) (exprs.match_of (place 3 77) (exprs.member (place 3 77) (exprs.name (place 3 77) (codes "r") types.no_types) (named 3 79 (codes "val"))) ((named 3 84 (codes "r")) ∷ []) (exprs.and_alt (exprs.and_alt (exprs.and_alt exprs.no_alts (place 3 88) (Some (codes "A")) (patterns.name (place 3 90) (codes "x")) (exprs.name (place 3 95) (codes "x") types.no_types)) (place 3 99) (Some (codes "B")) (patterns.tuple (place 3 101) (patterns.and_pattern (patterns.and_pattern patterns.no_patterns (patterns.name (place 3 102) (codes "y"))) (patterns.name (place 3 105) (codes "z")))) (exprs.name (place 3 111) (codes "y") types.no_types)) (place 3 115) None (patterns.name (place 3 115) (codes "w")) (exprs.number (place 3 120) (Some 2))))))
    ∷ []

names4 : program_faults p4 ≡ []
names4 = refl

takes4 : missing_fields p4 ≡ []
unfolding kernel.to_parts kernel.to_taus bodies_to subst bang digits
takes4 = refl

kernel4 : functions_of p4 ≡ (record { at = (named 2 1 (codes "f")); vars = ([]); ty = record { place = (place 2 5); ty = (kernel.arrow (kernel.fields (kernel.part (codes "val") (kernel.word U32) false kernel.end) W) (kernel.word U32)) }; body = Some (record { param = (place 3 3); term = (term (place 3 7) (let_bang ((record { var = 0; place = (place 3 22) }) ∷ []) (place 3 11) (term (place 3 15) (member (term (place 3 15) (var 0)) (named 3 17 (codes "val")))) (term (place 3 7) (let_bang ((record { var = 0; place = (place 3 45) }) ∷ (record { var = 1; place = (place 3 48) }) ∷ []) (place 3 28) (term (place 3 39) (op ops.Add (more (term (place 3 33) (member (term (place 3 33) (var 0)) (named 3 35 (codes "val")))) (more (term (place 3 41) (var 1)) none)))) (term (place 3 53) (let_bang ((record { var = 0; place = (place 3 63) }) ∷ []) (place 3 56) (term (place 3 58) (op ops.Lt (more (term (place 3 56) (var 1)) (more (term (place 3 60) (var 2)) none)))) (term (place 3 53) (if_else (term (place 3 56) (var 3)) (term (place 3 70) (var 1)) (term (place 3 77) (let_bang ((record { var = 0; place = (place 3 84) }) ∷ []) (place 3 77) (term (place 3 77) (member (term (place 3 77) (var 0)) (named 3 79 (codes "val")))) (term (place 3 88) (case_of (term (place 3 77) (var 4)) (named 3 88 (codes "A")) (place 3 90) (term (place 3 95) (var 5)) (term (place 3 99) (case_of (term (place 3 88) (var 5)) (named 3 99 (codes "B")) (place 3 101) (term (place 3 101) (take_field (term (place 3 101) (var 6)) (named 3 102 (codes "p1")) (place 3 101) (place 3 102) (term (place 3 101) (take_field (term (place 3 101) (var 7)) (named 3 105 (codes "p2")) (place 3 101) (place 3 105) (term (place 3 111) (var 8)))))) (term (place 3 115) (lets (place 3 115) (term (place 3 99) (var 6)) (term (place 3 120) (lit (Some 2))))))))))))))))))) }) } ∷ [])
unfolding kernel.to_parts kernel.to_taus bodies_to subst bang digits
kernel4 = refl

abbrev p5 : List Entry
p5 =
    abstract (named 1 6 (codes "A")) ((named 1 8 (codes "a")) ∷ [])
    ∷ synonym (named 2 6 (codes "B")) ([]) (types.named (place 2 10) (codes "A") (types.and_type types.no_types (types.named (place 2 12) (codes "U8") types.no_types)))
    ∷ signature (named 3 1 (codes "f")) ([]) ([]) (types.arrow (place 3 5) (types.named (place 3 5) (codes "B") types.no_types) (types.arrow (place 3 10) (types.tuple (place 3 10) (types.and_type (types.and_type types.no_types (types.named (place 3 11) (codes "B") types.no_types)) (types.named (place 3 14) (codes "SysState") types.no_types))) (types.named (place 3 27) (codes "WordArray") (types.and_type types.no_types (types.named (place 3 37) (codes "U8") types.no_types)))))
    ∷ define (named 4 1 (codes "f")) (patterns.name (place 4 3) (codes "b")) (exprs.app (place 4 7) (exprs.name (place 4 7) (codes "wordarray_create") (types.and_type types.no_types (types.named (place 4 24) (codes "U8") types.no_types))) (exprs.tuple (place 4 28) (exprs.and_expr (exprs.and_expr exprs.no_exprs (exprs.name (place 4 29) (codes "b") types.no_types)) (exprs.unary (place 4 32) ops.Not (exprs.bool (place 4 36) true)))))
    ∷ []

names5 : program_faults p5 ≡ []
names5 = refl

takes5 : missing_fields p5 ≡ []
unfolding kernel.to_parts kernel.to_taus bodies_to subst bang digits
takes5 = refl

kernel5 : functions_of p5 ≡ (record { at = (named 3 1 (codes "f")); vars = ([]); ty = record { place = (place 3 5); ty = (kernel.arrow (kernel.abs (codes "A") (kernel.more (kernel.word U8) kernel.none) W) (kernel.arrow (kernel.fields (kernel.part (codes "p1") (kernel.abs (codes "A") (kernel.more (kernel.word U8) kernel.none) W) false (kernel.part (codes "p2") (kernel.abs (codes "SysState") kernel.none W) false kernel.end)) U) (kernel.abs (codes "WordArray") (kernel.more (kernel.word U8) kernel.none) W))) }; body = Some (record { param = (place 4 3); term = (term (place 4 7) (app (term (place 4 7) (fun (OfLib libs.Create) ((record { place = (place 4 24); ty = (kernel.word U8) }) ∷ []))) (term (place 4 28) (struct (field (codes "p1") (term (place 4 29) (var 0)) (field (codes "p2") (term (place 4 32) (op ops.Not (more (term (place 4 36) (bool true)) none))) end)))))) }) } ∷ [])
unfolding kernel.to_parts kernel.to_taus bodies_to subst bang digits
kernel5 = refl

abbrev p6 : List Entry
p6 =
    signature (named 1 1 (codes "f")) ([]) ([]) (types.arrow (place 1 5) (types.named (place 1 5) (codes "U8") types.no_types) (types.named (place 1 11) (codes "U8") types.no_types))
    ∷ define (named 2 1 (codes "f")) (patterns.name (place 2 3) (codes "x")) (exprs.name (place 2 7) (codes "y") types.no_types)
    ∷ []

names6 : first (program_faults p6) ≡ Some (unknown (place 2 7))
names6 = refl

abbrev p7 : List Entry
p7 =
    signature (named 1 1 (codes "f")) ([]) ([]) (types.arrow (place 1 5) (types.named (place 1 5) (codes "U8") types.no_types) (types.named (place 1 11) (codes "U8") types.no_types))
    ∷ define (named 2 1 (codes "f")) (patterns.name (place 2 3) (codes "x")) (exprs.name (place 2 7) (codes "x") types.no_types)
    ∷ define (named 3 1 (codes "f")) (patterns.name (place 3 3) (codes "x")) (exprs.name (place 3 7) (codes "x") types.no_types)
    ∷ []

names7 : first (program_faults p7) ≡ Some (twice (place 3 1))
names7 = refl

abbrev p8 : List Entry
p8 =
    signature (named 1 1 (codes "f")) ([]) ([]) (types.arrow (place 1 5) (types.named (place 1 5) (codes "U8") types.no_types) (types.named (place 1 11) (codes "WordArray") types.no_types))
    ∷ define (named 2 1 (codes "f")) (patterns.name (place 2 3) (codes "x")) (exprs.name (place 2 7) (codes "x") types.no_types)
    ∷ []

names8 : first (program_faults p8) ≡ Some (arguments (place 1 11))
names8 = refl

abbrev p9 : List Entry
p9 =
    signature (named 1 1 (codes "f")) ([]) ([]) (types.arrow (place 1 5) (types.take_some (place 1 5) (types.named (place 1 5) (codes "U8") types.no_types) ((named 1 14 (codes "x")) ∷ [])) (types.named (place 1 20) (codes "U8") types.no_types))
    ∷ define (named 2 1 (codes "f")) (patterns.name (place 2 3) (codes "x")) (exprs.name (place 2 7) (codes "x") types.no_types)
    ∷ []

takes9 : first (missing_fields p9) ≡ Some (place 1 14)
unfolding kernel.to_parts kernel.to_taus bodies_to subst bang digits
takes9 = refl

abbrev p10 : List Entry
p10 =
    define (named 1 1 (codes "f")) (patterns.name (place 1 3) (codes "x")) (exprs.name (place 1 7) (codes "x") types.no_types)
    ∷ []

names10 : first (program_faults p10) ≡ Some (unknown (place 1 1))
names10 = refl

abbrev p11 : List Entry
p11 =
    signature (named 1 1 (codes "new")) ([]) ([]) (types.named (place 1 7) (codes "U8") types.no_types)
    ∷ []

names11 : first (program_faults p11) ≡ Some (twice (place 1 1))
names11 = refl

abbrev p12 : List Entry
p12 =
    define (named 1 1 (codes "new")) (patterns.name (place 1 5) (codes "x")) (exprs.number (place 1 9) (Some 1))
    ∷ []

names12 : first (program_faults p12) ≡ Some (unknown (place 1 1))
names12 = refl

abbrev p13 : List Entry
p13 =
    signature (named 1 1 (codes "f")) ((record { name = codes "a"; kinds = (record { drop = false; share = false; escape = false }) }) ∷ (record { name = codes "a"; kinds = (record { drop = false; share = false; escape = false }) }) ∷ []) ((place 1 10) ∷ (place 1 13) ∷ []) (types.named (place 1 17) (codes "a") types.no_types)
    ∷ []

names13 : first (program_faults p13) ≡ Some (twice (place 1 13))
names13 = refl

abbrev p14 : List Entry
p14 =
    signature (named 1 1 (codes "f")) ([]) ([]) (types.fields (place 1 5) true (types.and_field (types.and_field types.no_fields (named 1 6 (codes "x")) (types.named (place 1 10) (codes "U8") types.no_types)) (named 1 14 (codes "x")) (types.named (place 1 18) (codes "U9") types.no_types)))
    ∷ []

names14 : first (program_faults p14) ≡ Some (twice (place 1 14))
names14 = refl

abbrev p15 : List Entry
p15 =
    synonym (named 1 6 (codes "T")) ((named 1 8 (codes "a")) ∷ []) (types.take_some (place 1 12) (types.named (place 1 12) (codes "a") types.no_types) ((named 1 20 (codes "x")) ∷ []))
    ∷ signature (named 2 1 (codes "f")) ([]) ([]) (types.arrow (place 2 5) (types.named (place 2 5) (codes "T") (types.and_type types.no_types (types.fields (place 2 7) true (types.and_field types.no_fields (named 2 8 (codes "x")) (types.named (place 2 12) (codes "U8") types.no_types))))) (types.named (place 2 19) (codes "U8") types.no_types))
    ∷ []

takes15 : first (missing_fields p15) ≡ Some (place 1 20)
unfolding kernel.to_parts kernel.to_taus bodies_to subst bang digits
takes15 = refl

abbrev p16 : List Entry
p16 =
    abstract (named 1 6 (codes "U8")) ([])
    ∷ []

names16 : first (program_faults p16) ≡ Some (twice (place 1 6))
names16 = refl

abbrev p17 : List Entry
p17 =
    signature (named 1 1 (codes "f")) ([]) ([]) (types.arrow (place 1 5) (types.named (place 1 5) (codes "U8") types.no_types) (types.named (place 1 11) (codes "U8") types.no_types))
    ∷ define (named 2 1 (codes "f")) (patterns.tuple (place 2 3) (patterns.and_pattern (patterns.and_pattern patterns.no_patterns (patterns.name (place 2 4) (codes "x"))) (patterns.name (place 2 7) (codes "x")))) (exprs.name (place 2 12) (codes "x") (types.and_type types.no_types (types.named (place 2 14) (codes "U8") types.no_types)))
    ∷ []

names17 : first (program_faults p17) ≡ Some (twice (place 2 7))
names17 = refl

abbrev p18 : List Entry
p18 =
    signature (named 1 1 (codes "f")) ([]) ([]) (types.arrow (place 1 5) (types.named (place 1 5) (codes "U8") types.no_types) (types.named (place 1 11) (codes "U8") types.no_types))
    ∷ define (named 2 1 (codes "f")) (patterns.name (place 2 3) (codes "x")) (exprs.lets (place 2 7) (exprs.and_bind exprs.no_binds (patterns.name (place 2 11) (codes "y")) (exprs.name (place 2 15) (codes "x") types.no_types) ((named 2 18 (codes "z")) ∷ [])) (exprs.app (place 2 23) (exprs.name (place 2 23) (codes "f") (types.and_type types.no_types (types.named (place 2 25) (codes "U8") types.no_types))) (exprs.name (place 2 29) (codes "y") types.no_types)))
    ∷ []

names18 : first (program_faults p18) ≡ Some (unknown (place 2 18))
names18 = refl

abbrev p19 : List Entry
p19 =
    synonym (named 1 6 (codes "T")) ([]) (types.variant (place 1 10) (types.and_alt (types.and_plain types.no_alts (named 1 11 (codes "A"))) (named 1 15 (codes "A")) (types.named (place 1 17) (codes "U8") types.no_types)))
    ∷ []

names19 : first (program_faults p19) ≡ Some (twice (place 1 15))
names19 = refl
