-- Instances by keys, whose types stand in a table as one list.
use Rattle.std.specs.Prelude.{List}
use Rattle.cg_base.specs.Types.{Tau}
use Rattle.cg_inst.specs.declared.keys.Key.{Key}
use Rattle.cg_inst_types.specs.Listings.{IsListing, list_at}
use Rattle.cg_inst_types.specs.Places.{Each}
use Rattle.cg_typing.specs.Instances.{Instance}

-- the instance of a key, over a table
abbrev pub instance_at : List Tau → Key → Instance
instance_at types key = record { fun = key.fun; types = list_at types key.types }

-- every key's types stand in the table
abbrev pub AreKeyed : List Tau → List Key → Type 0
AreKeyed types keys = Each (λ (k : Key). IsListing types k.types) keys
