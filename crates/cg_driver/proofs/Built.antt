-- The steps of `build` come to status 0 over exactly the files whose source can be built; and where those of `recheck` do, those of `check` do.
use Rattle.std.proofs.Common.{◌≡◌, ◌≤◌, ℕ, List, [], ◌∷◌, Some, inr, take, ◌+◌, length, refl, subst}
use Rattle.std.specs.FinMap.{insert}
use Rattle.cg_outside.specs.Held.{Held, bytes_at}
use Rattle.cg_resolve_def.specs.Desugar.{functions_of}
use Rattle.cg_typing.proofs.KeptAccepted.{kept_accepted}
use Rattle.cg_driver_steps.specs.declared.status.Status.TheVariants.{Done}
use Rattle.cg_driver_steps.specs.Scripts.{ComesTo}
use Rattle.cg_driver_steps.specs.Steps.{Runs, Settles, goes}
use Rattle.cg_driver_steps.specs.World.{calm}
use Rattle.cg_driver_steps.proofs.Joining.{judged_runs, then_settles}
use Rattle.cg_driver_steps.proofs.Topping.{came_done}
use Rattle.cg_driver_words.specs.Words.{build, check, recheck}
use Rattle.cg_driver.specs.Accepted.{IsAcceptedSource, IsBuildable, IsCertifiedSource}
use Rattle.cg_driver.specs.Commands.{Judges, built_rules, certifiable, instanced, script_of, source_rules, writes_both}
use Rattle.cg_driver.specs.Externs.{Extern}
use Rattle.cg_driver.specs.Found.{certificate_limit, functions, nothing, source_limit, with_copies, with_program, with_source}
use Rattle.cg_driver.specs.Instanced.{HasInstances, certified_text, emitted}
use Rattle.cg_driver.proofs.Accepting.{all_accepted, built_source, only_certified, short_whole}
use Rattle.cg_driver.proofs.Judging.{ruling}
use Rattle.cg_driver.proofs.Saying.{accepted_settles}
use Rattle.cg_driver.proofs.Sources.{accepted_source}

-- ---- what a certificate says of its source

accepted_with : (source text : List ℕ) (a : IsCertifiedSource source text) → IsAcceptedSource source (functions_of a.program)
accepted_with source text a =
    accepted_source source a.program (functions_of a.program) a.short a.resolved (kept_accepted (functions_of a.program) a.spells.cores a.spells.trees a.spells.kept) a.within refl

pub rechecked_accepted : (table : Extern) (held : Held) (file certificate : List ℕ) → ComesTo Judges (script_of table (Some (recheck file certificate))) held Done → ComesTo Judges (script_of table (Some (check file))) held Done
rechecked_accepted table held file certificate k =
    let a = only_certified table held file certificate k in
    all_accepted table held file (functions_of a.program, accepted_with (bytes_at held file) (bytes_at held certificate) a)

-- ---- what is built

pub only_built : (table : Extern) (held : Held) (file text certificate : List ℕ) → ComesTo Judges (script_of table (Some (build file text certificate))) held Done → IsBuildable (bytes_at held file)
only_built table held file text certificate k =
    let d = came_done Judges ruling (script_of table (Some (build file text certificate))) held k in
    let b = built_source table held file text certificate d.0 (calm held) (calm d.1) refl d.2 in
    record { kernel = functions d.0; copies = d.0.copies; accepted = b.accepted; instances = b.instances; brief = b.brief }

pub all_built : (table : Extern) (held : Held) (file text certificate : List ℕ) → IsBuildable (bytes_at held file) → ComesTo Judges (script_of table (Some (build file text certificate))) held Done
all_built table held file text certificate b =
    let bytes = take (source_limit + 1) (bytes_at held file) in
    let f = with_source bytes nothing in
    let next = with_program b.accepted.accepted.program f in
    let last = with_copies b.copies next in
    let same : b.kernel ≡ functions next = b.accepted.kernel in
    let listed : HasInstances (functions next) b.copies = subst (λ x. HasInstances x b.copies) same b.instances in
    let brief : length (certified_text (functions next)) ≤ certificate_limit = subst (λ x. length (certified_text x) ≤ certificate_limit) same b.brief in
    let judged : Settles Judges (instanced ∷ certifiable ∷ []) next (goes last) = inr (last, (b.copies, refl, listed), inr (last, (refl, brief), refl)) in
    let settles : Settles Judges (built_rules file) f (goes last) =
    then_settles Judges (source_rules file) (instanced ∷ certifiable ∷ []) f next (goes last)
    (accepted_settles file (bytes_at held file) b.kernel b.accepted f (short_whole source_limit (bytes_at held file) b.accepted.limits.short)) judged in
    let one = insert held text (emitted last.copies) in
    let both = insert one certificate (certified_text (functions last)) in
    let written : Runs Judges (writes_both text certificate) last (calm held) (goes last) (calm both) =
    inr (last, calm one, (refl, record { held = refl; reads = refl; writes = refl }), inr (last, calm both, (refl, record { held = refl; reads = refl; writes = refl }), (refl, refl))) in
    (goes last, both, inr (f, calm held, (bytes, refl, refl, refl), judged_runs Judges (built_rules file) (writes_both text certificate) f last (calm held) (calm both) (goes last) settles written), refl)
