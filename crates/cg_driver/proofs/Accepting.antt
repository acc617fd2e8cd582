-- The steps of `check` come to status 0 over exactly the files whose source is accepted, and those of `recheck` over exactly those whose
-- certificate spells a derivation of the source.
use Rattle.std.proofs.Common.{◌≡◌, ◌∙◌, ◌+◌, ◌≤◌, ◌⊎◌, inl, inr, ℕ, List, [], ◌∷◌, ◌++◌, Option, Some, None, take, length, refl, sym, ap, subst, arith}
use Rattle.std.proofs.lemmas.List.{take_all, length-take}
use Rattle.std.specs.FinMap.{insert}
use Rattle.cg_base.specs.declared.limit.Limit.TheVariants.{Nesting, Functions, Fields, Ty, Depth}
use Rattle.cg_cert.specs.declared.cert.Cert.{Cert}
use Rattle.cg_cert.specs.Texts.{CertText}
use Rattle.cg_certcheck_laws.specs.Laws.{SpellsDerivation}
use Rattle.cg_faults.specs.Fails.{AreTypesWithin}
use Rattle.cg_graphs.specs.Circles.{NoCircle}
use Rattle.cg_lower.specs.Collected.{Copy}
use Rattle.cg_resolve_def.specs.Faults.{program_faults}
use Rattle.cg_resolve_def.specs.Mentions.{mentions}
use Rattle.cg_resolve_def.specs.Takes.{missing_fields, widest_part, largest_type}
use Rattle.cg_parser_def.specs.Grammar.{Spells}
use Rattle.cg_parser_def.specs.Bounded.{depth_limit}
use Rattle.cg_surface.specs.Programs.{Entry, program_depth}
use Rattle.cg_typing.specs.Accepted.{IsAcceptedKernel}
use Rattle.cg_core.specs.Kernels.{Function}
use Rattle.cg_resolve_def.specs.Desugar.{functions_of, functions_limit, parts_limit, type_limit, term_limit, deepest_body}
use Rattle.cg_outside.specs.Held.{Held, IsReadOf, bytes_at, with_file}
use Rattle.cg_driver_steps.specs.declared.status.Status.TheVariants.{Done}
use Rattle.cg_driver_steps.specs.World.{World, calm}
use Rattle.cg_driver_steps.specs.Steps.{goes, Step, Runs, Settles, judged_first}
use Rattle.cg_driver_steps.specs.Scripts.{ComesTo}
use Rattle.cg_driver_steps.proofs.Joining.{judged_runs}
use Rattle.cg_driver_steps.proofs.Topping.{came_done}
use Rattle.cg_driver_words.specs.Words.{Command, check, build, gen, recheck, run}
use Rattle.cg_driver.specs.Accepted.{BuildWrites, HasKernel, IsAcceptedSource, IsBuiltSource, IsCertifiedSource, WritesItsOwn}
use Rattle.cg_driver.specs.Commands.{Judgement, spelled, within, acyclic, with_fields, written, certified, instanced, certifiable, Judges, kernel_rules, resolving_rules, reading_rules, source_rules, built_rules, certificate_rules, reads_source, build_steps, writes_both, certificate_steps, recheck_steps, script_of}
use Rattle.cg_driver.specs.Externs.{Extern}
use Rattle.cg_driver.specs.Found.{Found, nothing, with_source, with_program, with_copies, with_certificate, with_cert, functions, source_limit, certificate_limit}
use Rattle.cg_driver.specs.Instanced.{HasInstances, certified_text, emitted}
use Rattle.cg_driver.proofs.Judging.{ruling}
use Rattle.cg_driver.proofs.Saying.{accepted_settles, reading_settles}
use Rattle.cg_driver.proofs.Sources.{accepted_source}

-- `build` alone writes, and its own files
pub own_writes : (table : Extern) (c : Option Command) → WritesItsOwn table c
own_writes table None = tt
own_writes table (Some (check file)) = tt
own_writes table (Some (build file text certificate)) = one_of
  where
    one_of : (name : List ℕ) → (name ≡ text) ⊎ ((name ≡ certificate) ⊎ ⊥) → (name ≡ text) ⊎ (name ≡ certificate)
    one_of name (inl e) = inl e
    one_of name (inr (inl e)) = inr e
    one_of name (inr (inr e)) = absurd e
own_writes table (Some (recheck file certificate)) = tt
own_writes table (Some (run file entry heap steps)) = tt
own_writes table (Some (gen n)) = tt

-- bytes within the limit were read whole
pub whole : (most : ℕ) (bytes read : List ℕ) → read ≡ take (most + 1) bytes → length read ≤ most → read ≡ bytes
whole most bytes read is short = is ∙ take_all (most + 1) bytes (omega (arith, length-take (most + 1) bytes, ap length is))

pub short_whole : (most : ℕ) (bytes : List ℕ) → length bytes ≤ most → take (most + 1) bytes ≡ bytes
short_whole most bytes short = take_all (most + 1) bytes (omega (arith, short))

-- judgements as steps settle
pub settled : (js : List Judgement) (f : Found) (old new : World) (next : Found) → Runs Judges (judged_first js []) f old (goes next) new → Settles Judges js f (goes next)
settled [] f old new next r = r.0
settled (j ∷ js) f old new next (inl r) = absurd r.0
settled (j ∷ js) f old new next (inr r) = inr (r.0, r.2.0, settled js r.0 r.1 new next r.3)

-- a rule that leaves the state
pub stays : (P Q : Type 0) (js : List Judgement) (f n : Found) → (⊥ × Q) ⊎ ((next : Found) × ((next ≡ f) × P) × Settles Judges js next (goes n)) → P × Settles Judges js f (goes n)
stays P Q js f n (inl r) = absurd r.0
stays P Q js f n (inr r) = (r.1.1, subst (λ x. Settles Judges js x (goes n)) r.1.0 r.2)

-- the rule that judges the kernel, by two facts
derives : (P R Q : Type 0) (js : List Judgement) (f n : Found) → (⊥ × Q) ⊎ ((next : Found) × ((next ≡ f) × P × R) × Settles Judges js next (goes n)) → P × R × Settles Judges js f (goes n)
derives P R Q js f n (inl r) = absurd r.0
derives P R Q js f n (inr r) = (r.1.1, r.1.2, subst (λ x. Settles Judges js x (goes n)) r.1.0 r.2)

-- the rule that reads the program
spells : (Q : Type 0) (js : List Judgement) (f n : Found) → (⊥ × Q) ⊎ ((next : Found) × ((p : List Entry) × (next ≡ with_program p f) × Spells f.source p) × Settles Judges js next (goes n))
    → (p : List Entry) × Spells f.source p × Settles Judges js (with_program p f) (goes n)
spells Q js f n (inl r) = absurd r.0
spells Q js f n (inr r) = (r.1.0, r.1.2, subst (λ x. Settles Judges js x (goes n)) r.1.1 r.2)

-- judgements that all go, and then others
pub parted : (js ks : List Judgement) (f n : Found) → Settles Judges (js ++ ks) f (goes n) → (m : Found) × Settles Judges js f (goes m) × Settles Judges ks m (goes n)
parted [] ks f n r = (f, refl, r)
parted (j ∷ js) ks f n (inl r) = absurd r.0
parted (j ∷ js) ks f n (inr r) = let p = parted js ks r.0 n r.2 in (p.0, inr (r.0, r.1, p.1), p.2)

-- judgements that all go, and then steps
pub parted_steps : (js : List Judgement) (rest : List (Step Judgement Found)) (f : Found) (old new : World) (n : Found) → Runs Judges (judged_first js rest) f old (goes n) new
    → (m : Found) × Settles Judges js f (goes m) × Runs Judges rest m old (goes n) new
parted_steps [] rest f old new n r = (f, refl, r)
parted_steps (j ∷ js) rest f old new n (inl r) = absurd r.0
parted_steps (j ∷ js) rest f old new n (inr r) =
    let p = parted_steps js rest r.0 r.1 new n r.3 in
    (p.0, inr (r.0, r.2.0, p.1), subst (λ w. Runs Judges rest p.0 w (goes n) new) r.2.1 p.2)

-- a state in which the program was found that the source spells, and its kernel
record IsRead (f n : Found) : Type 0 where
  program : List Entry
  short : length f.source ≤ source_limit
  resolved : HasKernel f.source program
  state : n ≡ with_program program f

-- rules of reading that all go leave it
read_of : (file : List ℕ) (f n : Found) → Settles Judges (reading_rules file) f (goes n) → IsRead f n
read_of file f n r =
    let short = stays (length f.source ≤ source_limit) _ (spelled file ∷ within Nesting ∷ resolving_rules file) f n r in
    let read = spells _ (within Nesting ∷ resolving_rules file) f n short.1 in
    let g = with_program read.0 f in
    let shallow = stays (program_depth read.0 ≤ depth_limit) _ (resolving_rules file) g n read.2 in
    let names = stays (program_faults read.0 ≡ []) _ (acyclic file ∷ with_fields file ∷ within Functions ∷ within Fields ∷ within Ty ∷ within Depth ∷ []) g n shallow.1 in
    let circles = stays (NoCircle (mentions read.0)) _ (with_fields file ∷ within Functions ∷ within Fields ∷ within Ty ∷ within Depth ∷ []) g n names.1 in
    let fields = stays (missing_fields read.0 ≡ []) _ (within Functions ∷ within Fields ∷ within Ty ∷ within Depth ∷ []) g n circles.1 in
    let few = stays (length (functions_of read.0) ≤ functions_limit) _ (within Fields ∷ within Ty ∷ within Depth ∷ []) g n fields.1 in
    let narrow = stays (widest_part read.0 ≤ parts_limit) _ (within Ty ∷ within Depth ∷ []) g n few.1 in
    let light = stays (largest_type read.0 ≤ type_limit) _ (within Depth ∷ []) g n narrow.1 in
    let low = stays (deepest_body (functions_of read.0) ≤ term_limit) _ [] g n light.1 in
    let last : goes n ≡ goes g = low.1 in
    record {
      program = read.0;
      short = short.0;
      resolved = record { spelled = read.1; shallow = shallow.0; names = record { names = names.0; circles = circles.0; fields = fields.0 }; limits = (few.0, narrow.0, light.0, low.0) };
      state = cc;
    }

-- rules that all go leave a source that is accepted
pub accepted_of : (file : List ℕ) (f n : Found) → Settles Judges (source_rules file) f (goes n) → IsAcceptedSource f.source (functions n)
accepted_of file f n r =
    let both = parted (reading_rules file) (kernel_rules file) f n r in
    let read = read_of file f both.0 both.1 in
    let derived = derives (IsAcceptedKernel (functions both.0)) (AreTypesWithin (functions both.0)) _ [] both.0 n both.2 in
    let last : goes n ≡ goes both.0 = derived.2 in
    let same : n ≡ both.0 = cc in
    let kernel : functions both.0 ≡ functions_of read.program = ap functions read.state in
    accepted_source f.source read.program (functions n) read.short read.resolved (subst IsAcceptedKernel kernel derived.0) (subst AreTypesWithin kernel derived.1) (ap functions same ∙ kernel)

read_whole : (held : Held) (file : List ℕ) (found : Found) (after : Held) → Runs Judges (reads_source file ∷ judged_first (source_rules file) []) nothing (calm held) (goes found) (calm after)
    → IsAcceptedSource (bytes_at held file) (functions found)
read_whole held file found after (inl r) = absurd r.0
read_whole held file found after (inr r) =
    let accepted = accepted_of file r.0 found (settled (source_rules file) r.0 r.1 (calm after) found r.3) in
    let is : r.0.source ≡ take (source_limit + 1) (bytes_at held file) = ap (λ f. f.source) r.2.2 ∙ r.2.1 in
    subst (λ x. IsAcceptedSource x (functions found)) (whole source_limit (bytes_at held file) r.0.source is accepted.limits.short) accepted

pub only_accepted : (table : Extern) (held : Held) (file : List ℕ) → ComesTo Judges (script_of table (Some (check file))) held Done → (fs : List Function) × IsAcceptedSource (bytes_at held file) fs
only_accepted table held file k = let d = came_done Judges ruling (script_of table (Some (check file))) held k in (functions d.0, read_whole held file d.0 d.1 d.2)

pub all_accepted : (table : Extern) (held : Held) (file : List ℕ) → (fs : List Function) × IsAcceptedSource (bytes_at held file) fs → ComesTo Judges (script_of table (Some (check file))) held Done
all_accepted table held file a =
    let bytes = take (source_limit + 1) (bytes_at held file) in
    let f = with_source bytes nothing in
    let next = with_program a.1.accepted.program f in
    let settles = accepted_settles file (bytes_at held file) a.0 a.1 f (short_whole source_limit (bytes_at held file) a.1.limits.short) in
    (goes next, held, inr (f, calm held, (bytes, refl, refl, refl), judged_runs Judges (source_rules file) [] f next (calm held) (calm held) (goes next) settles (refl, refl)), refl)

-- ---- building

-- the judgement of instances
pub lists : (Q : Type 0) (js : List Judgement) (f n : Found)
    → (⊥ × Q) ⊎ ((next : Found) × ((copies : List Copy) × (next ≡ with_copies copies f) × HasInstances (functions f) copies) × Settles Judges js next (goes n))
    → (copies : List Copy) × HasInstances (functions f) copies × Settles Judges js (with_copies copies f) (goes n)
lists Q js f n (inl r) = absurd r.0
lists Q js f n (inr r) = (r.1.0, r.1.2, subst (λ x. Settles Judges js x (goes n)) r.1.1 r.2)

-- both writes
record AreWritten (held : Option Held) (text certificate : List ℕ) (m n : Found) (new : World) : Type 0 where
  same : n ≡ m
  files : new.held ≡ with_file (with_file held text (emitted m.copies)) certificate (certified_text (functions m))

written_both : (text certificate : List ℕ) (m n : Found) (old new : World) → Runs Judges (writes_both text certificate) m old (goes n) new → AreWritten old.held text certificate m n new
written_both text certificate m n old new (inl r) = absurd r.0
written_both text certificate m n old new (inr (f, between, (same, first), inl r)) = absurd r.0
written_both text certificate m n old new (inr (f, between, (same, first), inr (g, last, (same', second), (end, stay)))) =
    let there : goes n ≡ goes g = end in
    let is : n ≡ g = cc in
    record {
      same = is ∙ same' ∙ same;
      files = ap (λ w. w.held) stay ∙ second.held ∙ ap (λ h. with_file h certificate (certified_text (functions f))) first.held
          ∙ ap (λ x. with_file (with_file old.held text (emitted m.copies)) certificate (certified_text (functions x))) same;
    }

built_of : (held : Held) (file text certificate : List ℕ) (f n : Found) (old new : World) → old.held ≡ Some held → (length f.source ≤ source_limit → f.source ≡ bytes_at held file)
    → Runs Judges (build_steps file text certificate) f old (goes n) new → IsBuiltSource held file text certificate n new
built_of held file text certificate f n old new told source r =
    let steps = parted_steps (built_rules file) (writes_both text certificate) f old new n r in
    let m = steps.0 in
    let rules = parted (source_rules file) (instanced ∷ certifiable ∷ []) f m steps.1 in
    let g = rules.0 in
    let accepted = accepted_of file f g rules.1 in
    let listed = lists _ (certifiable ∷ []) g m rules.2 in
    let h = with_copies listed.0 g in
    let brief = stays (length (certified_text (functions h)) ≤ certificate_limit) _ [] h m listed.2 in
    let end : goes m ≡ goes h = brief.1 in
    let is : m ≡ h = cc in
    let written = written_both text certificate m n old new steps.2 in
    let last : n ≡ h = written.same ∙ is in
    let whole_source = subst (λ x. IsAcceptedSource x (functions g)) (source accepted.limits.short) accepted in
    record {
      accepted = subst (λ x. IsAcceptedSource (bytes_at held file) (functions x)) (sym last) whole_source;
      instances = subst (λ x. HasInstances (functions x) x.copies) (sym last) listed.1;
      brief = subst (λ x. length (certified_text (functions x)) ≤ certificate_limit) (sym last) brief.0;
      files = written.files ∙ ap (λ o. with_file (with_file o text (emitted m.copies)) certificate (certified_text (functions m))) told
          ∙ ap (λ x. Some (insert (insert held text (emitted x.copies)) certificate (certified_text (functions x)))) (sym written.same);
    }

pub built_source : (table : Extern) → BuildWrites table
built_source table held file text certificate found old new told (inl r) = absurd r.0
built_source table held file text certificate found old new told (inr r) =
    let is : r.0.source ≡ take (source_limit + 1) (bytes_at held file) = ap (λ f. f.source) r.2.2 ∙ read_is held old.held file r.2.0 told r.2.1 in
    built_of held file text certificate r.0 found old new told (whole source_limit (bytes_at held file) r.0.source is) (subst (λ w. Runs Judges (build_steps file text certificate) r.0 w (goes found) new) r.2.3 r.3)
  where
    read_is : (held : Held) (o : Option Held) (file bytes : List ℕ) → o ≡ Some held → IsReadOf o file source_limit bytes → bytes ≡ take (source_limit + 1) (bytes_at held file)
    read_is held o file bytes told read = subst (λ x. IsReadOf x file source_limit bytes) told read

-- ---- certificates

-- the rule that reads the certificate
writes : (Q : Type 0) (js : List Judgement) (f n : Found) → (⊥ × Q) ⊎ ((next : Found) × ((c : Cert) × (next ≡ with_cert c f) × CertText f.certificate c) × Settles Judges js next (goes n))
    → (c : Cert) × CertText f.certificate c × Settles Judges js (with_cert c f) (goes n)
writes Q js f n (inl r) = absurd r.0
writes Q js f n (inr r) = (r.1.0, r.1.2, subst (λ x. Settles Judges js x (goes n)) r.1.1 r.2)

record IsJudged (bytes : List ℕ) (fs : List Function) : Type 0 where
  cert : Cert
  brief : length bytes ≤ certificate_limit
  written : CertText bytes cert
  spells : SpellsDerivation fs cert
  narrow : AreTypesWithin fs

judged_of : (name : List ℕ) (f n : Found) → Settles Judges (certificate_rules name) f (goes n) → IsJudged f.certificate (functions f)
judged_of name f n r =
    let brief = stays (length f.certificate ≤ certificate_limit) _ (written name ∷ certified name ∷ []) f n r in
    let read = writes _ (certified name ∷ []) f n brief.1 in
    let derived = derives (SpellsDerivation (functions f) read.0) (AreTypesWithin (functions f)) _ [] (with_cert read.0 f) n read.2 in
    record { cert = read.0; brief = brief.0; written = read.1; spells = derived.0; narrow = derived.1 }

-- a certificate file that was read whole, behind a source that was
certificate_whole : (held : Held) (name : List ℕ) (f found : Found) (after : Held) → Runs Judges (certificate_steps name) f (calm held) (goes found) (calm after) → IsJudged (bytes_at held name) (functions f)
certificate_whole held name f found after (inl r) = absurd r.0
certificate_whole held name f found after (inr r) =
    let judged = judged_of name r.0 found (settled (certificate_rules name) r.0 r.1 (calm after) found r.3) in
    let is : r.0.certificate ≡ take (certificate_limit + 1) (bytes_at held name) = ap (λ g. g.certificate) r.2.2 ∙ r.2.1 in
    let all : r.0.certificate ≡ bytes_at held name = whole certificate_limit (bytes_at held name) r.0.certificate is judged.brief in
    let same : functions r.0 ≡ functions f = ap functions r.2.2 in
    subst (λ b. IsJudged b (functions f)) all (subst (IsJudged r.0.certificate) same judged)

certified_whole : (held : Held) (file name : List ℕ) (found : Found) (after : Held) → Runs Judges (reads_source file ∷ recheck_steps file name) nothing (calm held) (goes found) (calm after)
    → IsCertifiedSource (bytes_at held file) (bytes_at held name)
certified_whole held file name found after (inl r) = absurd r.0
certified_whole held file name found after (inr r) =
    let rest = subst (λ w. Runs Judges (recheck_steps file name) r.0 w (goes found) (calm after)) r.2.3 r.3 in
    let both = parted_steps (reading_rules file) (certificate_steps name) r.0 (calm held) (calm after) found rest in
    let read = read_of file r.0 both.0 both.1 in
    let is : r.0.source ≡ take (source_limit + 1) (bytes_at held file) = ap (λ f. f.source) r.2.2 ∙ r.2.1 in
    let all : r.0.source ≡ bytes_at held file = whole source_limit (bytes_at held file) r.0.source is read.short in
    let judged = subst (IsJudged (bytes_at held name)) (ap functions read.state) (certificate_whole held name both.0 found after both.2) in
    record {
      program = read.program;
      cert = judged.cert;
      short = subst (λ x. length x ≤ source_limit) all read.short;
      resolved = subst (λ x. HasKernel x read.program) all read.resolved;
      brief = judged.brief;
      written = judged.written;
      spells = judged.spells;
      within = judged.narrow;
    }

pub only_certified : (table : Extern) (held : Held) (file name : List ℕ) → ComesTo Judges (script_of table (Some (recheck file name))) held Done → IsCertifiedSource (bytes_at held file) (bytes_at held name)
only_certified table held file name k = let d = came_done Judges ruling (script_of table (Some (recheck file name))) held k in certified_whole held file name d.0 d.1 d.2

pub all_certified : (table : Extern) (held : Held) (file name : List ℕ) → IsCertifiedSource (bytes_at held file) (bytes_at held name) → ComesTo Judges (script_of table (Some (recheck file name))) held Done
all_certified table held file name a =
    let bytes = take (source_limit + 1) (bytes_at held file) in
    let f = with_source bytes nothing in
    let next = with_program a.program f in
    let settles = reading_settles file (bytes_at held file) a.program a.short a.resolved f (short_whole source_limit (bytes_at held file) a.short) in
    let text = take (certificate_limit + 1) (bytes_at held name) in
    let text_is : text ≡ bytes_at held name = short_whole certificate_limit (bytes_at held name) a.brief in
    let g = with_certificate text next in
    let last = with_cert a.cert g in
    let judged : Settles Judges (certificate_rules name) g (goes last) = inr (
      g,
      (refl, subst (λ x. length x ≤ certificate_limit) (sym text_is) a.brief),
      inr (last, (a.cert, refl, subst (λ x. CertText x a.cert) (sym text_is) a.written), inr (last, (refl, a.spells, a.within), refl)),
    ) in
    let rest : Runs Judges (certificate_steps name) next (calm held) (goes last) (calm held) =
    inr (g, calm held, (text, refl, refl, refl), judged_runs Judges (certificate_rules name) [] g last (calm held) (calm held) (goes last) judged (refl, refl)) in (
      goes last,
      held,
      inr (f, calm held, (bytes, refl, refl, refl), judged_runs Judges (reading_rules file) (certificate_steps name) f next (calm held) (calm held) (goes last) settles rest),
      refl,
    )
