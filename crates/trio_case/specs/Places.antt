-- Where the pages of a bundle stand in it.
use Rattle.std.specs.Prelude.{ℕ, List, Option, slice_get}
use Rattle.std.specs.Option.{option_and_then, option_map}
use Rattle.trio_lease.specs.Shown.{page_at, no_at}
use Rattle.trio_lease.specs.Bundles.{Bundled}
use Rattle.trio_case.specs.declared.places.PagePlace.{PagePlace}
use Rattle.trio_case.specs.declared.places.PagePlace.TheVariants.{Index, Block, Fresh}

-- the bytes of the page at a place of the bundle
abbrev pub bytes_at : Bundled → PagePlace → Option (List ℕ)
bytes_at b (Index file at) = option_and_then (λ f. page_at f.stands.index at) (slice_get b.writes file)
bytes_at b (Block file at) = option_and_then (λ f. page_at f.stands.blocks at) (slice_get b.writes file)
bytes_at b (Fresh at) = option_map (λ p. p.page) (slice_get b.pages at)

-- the number of the page at a place of the bundle
abbrev pub number_at : Bundled → PagePlace → Option ℕ
number_at b (Index file at) =
    option_and_then (λ f. option_map (λ no. no.0) (no_at f.stands.index at)) (slice_get b.writes file)
number_at b (Block file at) =
    option_and_then (λ f. option_map (λ no. no.0) (no_at f.stands.blocks at)) (slice_get b.writes file)
number_at b (Fresh at) = option_map (λ p. p.no.0) (slice_get b.pages at)
