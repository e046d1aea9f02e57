-- What harmlist writes for an input (document 01, "Columns and the listing"): the listing after the last window, or only the refused line.
use Rattle.std.specs.Prelude.{cond, List, ℕ, ◌-◌, eqb}
use Rattle.refusals.specs.Numbers.{no_refusal}
use Rattle.listing.specs.Listing.{listing_text}
use Rattle.listing.specs.RefusalLine.{refusal_line}
use Rattle.kinds.specs.declared.Kind.TheVariants.{HarmonicGroup, HarmonicSubgroup}
use Rattle.groups.specs.Group.{window_row}
use Rattle.recordings.specs.InputRefusal.{input_refusal}
use Rattle.recordings.specs.Windows.{setup_in, window_in, window_count, record_in}

-- "Group and subgroup are the last window's"
unfoldable pub listing_for : List ℕ → List ℕ
listing_for text =
    let last = window_in text (window_count text - 1) in
    listing_text
    (window_row HarmonicGroup (setup_in text) last).values
    (window_row HarmonicSubgroup (setup_in text) last).values
    (record_in text (window_count text)).smoothed

-- all that harmlist writes: the listing, "or only one line"
unfoldable pub harmlist_output : List ℕ → List ℕ
harmlist_output text = cond (eqb (input_refusal text) no_refusal) (listing_for text) (refusal_line (input_refusal text))
