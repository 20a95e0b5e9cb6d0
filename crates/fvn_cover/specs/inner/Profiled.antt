-- Profiles and marks of variants.
use Rattle.std.specs.Prelude.{◌++◌}
use Rattle.fvn_cover_counts.specs.declared.profile.Profile.{Profile}
use Rattle.fvn_cover_counts.specs.declared.marks.Marks.{Marks}
use Rattle.fvn_cover_counts.specs.Profiles.{IsProfile}
use Rattle.fvn_cover_counts.specs.Marks.{AreMarks}
use Rattle.fvn_cover.specs.declared.variant.Variant.{Variant}
use Rattle.fvn_cover.specs.Covering.{values_of}

-- this was counted of the terms and then the values of the variant
abbrev pub IsProfiled : Variant → Profile → Type 0
IsProfiled v p = IsProfile (v.terms ++ values_of v) p

-- these are the marks of the terms and then the values of the variant
abbrev pub IsMarked : Variant → Marks → Type 0
IsMarked v m = AreMarks (v.terms ++ values_of v) m
