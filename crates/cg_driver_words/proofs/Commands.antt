-- The commands: what each expects of its words. A command that joins has its lines here, in `Apps`, `Matches` and `Top`.
use Rattle.std.proofs.Common.{◌≡◌, ◌∙◌, true, false, true≢false, refl, ap, ap₂, List, [], ◌∷◌, Option, Some, None, option_map, codes}
use Rattle.clap.specs.Words.{Row, Rule, Text, first_of}
use Rattle.clap.specs.Simple.{built_leaf, inherited}
use Rattle.cg_driver_words.specs.Apps.{bare_app, build_app, check_app, gen_app, recheck_app, run_app}
use Rattle.cg_driver_words.specs.Matches.{build_by, build_in, check_in, gen_by, gen_in, recheck_by, recheck_in, run_by, run_in}
use Rattle.cg_driver_words.specs.Words.{build_names, check, check_names, gen_names, recheck_names, run_names}
use Rattle.cg_driver_words.proofs.Rows.{Slot, value_in}
use Rattle.cg_driver_words.proofs.Rules.{Allowed, Expects, Given, IsLeaf, as_many, listed}
use Rattle.cg_base.proofs.Counts.{no_steps}

-- ---- `check FILE`

abbrev pub check_rules : List Rule
check_rules = (built_leaf (inherited bare_app.top check_app.top)).rules

pub check_is_leaf : IsLeaf false check_rules
check_is_leaf = record { steps_long = λ e. no_steps e; steps_id = λ e. no_steps e; other = λ name e. refl; short = λ x. refl; bare = refl }

check_reads : (rows : List Row) (vs : List Text) (n : Option Text) → Allowed false n → Given rows (codes "file" ∷ []) vs → check_in rows ≡ check_names vs (listed n)
check_reads rows [] n a g = absurd g
check_reads rows (file ∷ []) None a g = ap (option_map check) (value_in (codes "file") (Some file) rows g.0)
check_reads rows (file ∷ []) (Some s) a g = no_steps a
check_reads rows (file ∷ v ∷ vs) n a g = absurd g.1

check_wrong : (names values : List Text) → as_many (codes "file" ∷ []) names ≡ false → check_names names values ≡ None
check_wrong [] values e = refl
check_wrong (file ∷ []) values e = absurd (true≢false e)
check_wrong (file ∷ v ∷ names) values e = refl

check_twice : (names : List Text) (a b : Text) (values : List Text) → check_names names (a ∷ b ∷ values) ≡ None
check_twice [] a b values = refl
check_twice (file ∷ []) a b values = refl
check_twice (file ∷ v ∷ names) a b values = refl

pub check_expects : Expects false check_rules check_in (codes "file" ∷ []) 1 check_names []
check_expects = record {
  numbered = (refl, refl, refl);
  apart = refl;
  no_steps = refl;
  lacks = λ rows k. refl;
  reads = λ rows vs n a k g e. check_reads rows vs n a g;
  wrong = check_wrong;
  twice = check_twice;
}

-- ---- `build FILE CFILE CERTFILE`

abbrev pub build_rules : List Rule
build_rules = (built_leaf (inherited bare_app.top build_app.top)).rules

pub build_is_leaf : IsLeaf false build_rules
build_is_leaf = record { steps_long = λ e. no_steps e; steps_id = λ e. no_steps e; other = λ name e. refl; short = λ x. refl; bare = refl }

abbrev build_ids : List Text
build_ids = codes "file" ∷ codes "text" ∷ codes "certificate" ∷ []

build_given : (rows : List Row) (file text certificate : Text) → Given rows build_ids (file ∷ text ∷ certificate ∷ []) → build_in rows ≡ build_by (Some file) (Some text) (Some certificate)
build_given rows file text certificate g =
    ap₂ (λ x y. build_by x y (first_of (codes "certificate") rows)) (value_in (codes "file") (Some file) rows g.0) (value_in (codes "text") (Some text) rows g.1.0)
    ∙ ap (build_by (Some file) (Some text)) (value_in (codes "certificate") (Some certificate) rows g.1.1.0)

build_reads : (rows : List Row) (vs : List Text) (n : Option Text) → Allowed false n → Given rows build_ids vs → build_in rows ≡ build_names vs (listed n)
build_reads rows [] n a g = absurd g
build_reads rows (file ∷ []) n a g = absurd g.1
build_reads rows (file ∷ text ∷ []) n a g = absurd g.1.1
build_reads rows (file ∷ text ∷ certificate ∷ []) None a g = build_given rows file text certificate g
build_reads rows (file ∷ text ∷ certificate ∷ []) (Some s) a g = no_steps a
build_reads rows (file ∷ text ∷ certificate ∷ v ∷ vs) n a g = absurd g.1.1.1

build_wrong : (names values : List Text) → as_many build_ids names ≡ false → build_names names values ≡ None
build_wrong [] values e = refl
build_wrong (file ∷ []) values e = refl
build_wrong (file ∷ text ∷ []) values e = refl
build_wrong (file ∷ text ∷ certificate ∷ []) values e = absurd (true≢false e)
build_wrong (file ∷ text ∷ certificate ∷ v ∷ names) values e = refl

build_twice : (names : List Text) (a b : Text) (values : List Text) → build_names names (a ∷ b ∷ values) ≡ None
build_twice [] a b values = refl
build_twice (file ∷ []) a b values = refl
build_twice (file ∷ text ∷ []) a b values = refl
build_twice (file ∷ text ∷ certificate ∷ []) a b values = refl
build_twice (file ∷ text ∷ certificate ∷ v ∷ names) a b values = refl

pub build_expects : Expects false build_rules build_in build_ids 1 build_names []
build_expects = record {
  numbered = (refl, refl, (refl, refl, (refl, refl, refl)));
  apart = refl;
  no_steps = refl;
  lacks = λ rows k. refl;
  reads = λ rows vs n a k g e. build_reads rows vs n a g;
  wrong = build_wrong;
  twice = build_twice;
}

-- ---- `gen N`

abbrev pub gen_rules : List Rule
gen_rules = (built_leaf (inherited bare_app.top gen_app.top)).rules

pub gen_is_leaf : IsLeaf false gen_rules
gen_is_leaf = record { steps_long = λ e. no_steps e; steps_id = λ e. no_steps e; other = λ name e. refl; short = λ x. refl; bare = refl }

gen_reads : (rows : List Row) (vs : List Text) (n : Option Text) → Allowed false n → Given rows (codes "number" ∷ []) vs → gen_in rows ≡ gen_names vs (listed n)
gen_reads rows [] n a g = absurd g
gen_reads rows (number ∷ []) None a g = ap gen_by (value_in (codes "number") (Some number) rows g.0)
gen_reads rows (number ∷ []) (Some s) a g = no_steps a
gen_reads rows (number ∷ v ∷ vs) n a g = absurd g.1

gen_wrong : (names values : List Text) → as_many (codes "number" ∷ []) names ≡ false → gen_names names values ≡ None
gen_wrong [] values e = refl
gen_wrong (number ∷ []) values e = absurd (true≢false e)
gen_wrong (number ∷ v ∷ names) values e = refl

gen_twice : (names : List Text) (a b : Text) (values : List Text) → gen_names names (a ∷ b ∷ values) ≡ None
gen_twice [] a b values = refl
gen_twice (number ∷ []) a b values = refl
gen_twice (number ∷ v ∷ names) a b values = refl

pub gen_expects : Expects false gen_rules gen_in (codes "number" ∷ []) 1 gen_names []
gen_expects = record {
  numbered = (refl, refl, refl);
  apart = refl;
  no_steps = refl;
  lacks = λ rows k. refl;
  reads = λ rows vs n a k g e. gen_reads rows vs n a g;
  wrong = gen_wrong;
  twice = gen_twice;
}

-- ---- `recheck FILE CERTFILE`

abbrev pub recheck_rules : List Rule
recheck_rules = (built_leaf (inherited bare_app.top recheck_app.top)).rules

pub recheck_is_leaf : IsLeaf false recheck_rules
recheck_is_leaf = record { steps_long = λ e. no_steps e; steps_id = λ e. no_steps e; other = λ name e. refl; short = λ x. refl; bare = refl }

abbrev recheck_ids : List Text
recheck_ids = codes "file" ∷ codes "certificate" ∷ []

recheck_reads : (rows : List Row) (vs : List Text) (n : Option Text) → Allowed false n → Given rows recheck_ids vs → recheck_in rows ≡ recheck_names vs (listed n)
recheck_reads rows [] n a g = absurd g
recheck_reads rows (file ∷ []) n a g = absurd g.1
recheck_reads rows (file ∷ certificate ∷ []) None a g =
    ap₂ recheck_by (value_in (codes "file") (Some file) rows g.0) (value_in (codes "certificate") (Some certificate) rows g.1.0)
recheck_reads rows (file ∷ certificate ∷ []) (Some s) a g = no_steps a
recheck_reads rows (file ∷ certificate ∷ v ∷ vs) n a g = absurd g.1.1

recheck_wrong : (names values : List Text) → as_many recheck_ids names ≡ false → recheck_names names values ≡ None
recheck_wrong [] values e = refl
recheck_wrong (file ∷ []) values e = refl
recheck_wrong (file ∷ certificate ∷ []) values e = absurd (true≢false e)
recheck_wrong (file ∷ certificate ∷ v ∷ names) values e = refl

recheck_twice : (names : List Text) (a b : Text) (values : List Text) → recheck_names names (a ∷ b ∷ values) ≡ None
recheck_twice [] a b values = refl
recheck_twice (file ∷ []) a b values = refl
recheck_twice (file ∷ certificate ∷ []) a b values = refl
recheck_twice (file ∷ certificate ∷ v ∷ names) a b values = refl

pub recheck_expects : Expects false recheck_rules recheck_in recheck_ids 1 recheck_names []
recheck_expects = record {
  numbered = (refl, refl, (refl, refl, refl));
  apart = refl;
  no_steps = refl;
  lacks = λ rows k. refl;
  reads = λ rows vs n a k g e. recheck_reads rows vs n a g;
  wrong = recheck_wrong;
  twice = recheck_twice;
}

-- ---- `run FILE ENTRY HEAPFILE [--steps N]`

abbrev pub run_rules : List Rule
run_rules = (built_leaf (inherited bare_app.top run_app.top)).rules

pub run_is_leaf : IsLeaf true run_rules
run_is_leaf = record { steps_long = λ e. refl; steps_id = λ e. refl; other = λ name e. rw e refl; short = λ x. refl; bare = refl }

abbrev run_ids : List Text
run_ids = codes "file" ∷ codes "entry" ∷ codes "heap" ∷ []

run_given : (rows : List Row) (file entry heap : Text) (n : Option Text) → Given rows run_ids (file ∷ entry ∷ heap ∷ []) → Slot rows (codes "steps") n
    → run_in rows ≡ run_by (Some file) (Some entry) (Some heap) n
run_given rows file entry heap n g e =
    ap₂ (λ x y. run_by x y (first_of (codes "heap") rows) (first_of (codes "steps") rows)) (value_in (codes "file") (Some file) rows g.0) (value_in (codes "entry") (Some entry) rows g.1.0)
    ∙ ap₂ (λ x y. run_by (Some file) (Some entry) x y) (value_in (codes "heap") (Some heap) rows g.1.1.0) (value_in (codes "steps") n rows e)

run_reads : (rows : List Row) (vs : List Text) (n : Option Text) → Given rows run_ids vs → Slot rows (codes "steps") n → run_in rows ≡ run_names vs (listed n)
run_reads rows [] n g e = absurd g
run_reads rows (file ∷ []) n g e = absurd g.1
run_reads rows (file ∷ entry ∷ []) n g e = absurd g.1.1
run_reads rows (file ∷ entry ∷ heap ∷ []) None g e = run_given rows file entry heap None g e
run_reads rows (file ∷ entry ∷ heap ∷ []) (Some s) g e = run_given rows file entry heap (Some s) g e
run_reads rows (file ∷ entry ∷ heap ∷ v ∷ vs) n g e = absurd g.1.1.1

run_wrong : (names values : List Text) → as_many run_ids names ≡ false → run_names names values ≡ None
run_wrong [] values e = refl
run_wrong (file ∷ []) values e = refl
run_wrong (file ∷ entry ∷ []) values e = refl
run_wrong (file ∷ entry ∷ heap ∷ []) values e = absurd (true≢false e)
run_wrong (file ∷ entry ∷ heap ∷ v ∷ names) values e = refl

run_twice : (names : List Text) (a b : Text) (values : List Text) → run_names names (a ∷ b ∷ values) ≡ None
run_twice [] a b values = refl
run_twice (file ∷ []) a b values = refl
run_twice (file ∷ entry ∷ []) a b values = refl
run_twice (file ∷ entry ∷ heap ∷ []) a b values = refl
run_twice (file ∷ entry ∷ heap ∷ v ∷ names) a b values = refl

pub run_expects : Expects true run_rules run_in run_ids 1 run_names []
run_expects = record {
  numbered = (refl, refl, (refl, refl, (refl, refl, refl)));
  apart = refl;
  no_steps = refl;
  lacks = λ rows k. refl;
  reads = λ rows vs n a k g e. run_reads rows vs n g e;
  wrong = run_wrong;
  twice = run_twice;
}
