-- For each bundle that was given to its library there is a step of its release.
use Rattle.trio_laws.proofs.Words.{Accepted, Allot, Back, Bundle, CtlAnswer, Does, Ends, Event, GivenEvent, GivenTo, Grant, Image, In, In-filter, In-flat, IsAccepted, IsRefused, IsSpread, Kept, List, None, NotClosed, OpenGrant, Option, Pages, Parted, Refused, Release, SetMode, Settle, Settled, Sheet, Some, State, [], allot_outcome, ap, arith, blank, bundle_sheets, cases_Bool, checkpoints_of, creds_of, filter, filter-In, flat_map-In, given_back, grant_outcome, grants_after, inl, inr, is_accepted, is_in_bundle, length, length-with_pages, lent_part, map, map-In, mode_outcome, next, not, option_and_then, out_after, parted_hold, refl, refused_image, settled, sheet_numbers, slice_get, subst, suc, sym, true, uncovered, unless_absent, with_core_pages, with_pages, zero, ℕ, ◌++◌, ◌+◌, ◌∙◌, ◌∷◌, ◌≡◌}
use Rattle.trio_laws.specs.Laws.{MayEnd}
use Rattle.trio_state.specs.Step.{Done}
use Rattle.trio_laws.proofs.PutBack.{refused_away, refused_settles}
use Rattle.trio_laws.proofs.Spread.{accepted_away, accepted_settles, next_long, next_there}
use Rattle.trio_laws.proofs.Tells.{refused_tells}

abbrev bytes_at : Option (Option (List ℕ)) → List ℕ
bytes_at None = []
bytes_at (Some None) = []
bytes_at (Some (Some b)) = b

-- a sheet with the bytes that stand at its number
abbrev refreshed : Pages → Sheet → Sheet
refreshed pages x = record { page = x.page; bytes = bytes_at (slice_get pages x.page) }

abbrev refresh : Pages → OpenGrant → OpenGrant
refresh pages g = record g { checkpoint = map (refreshed pages) g.checkpoint }

blank_refreshed : (pages : Pages) (ss : List Sheet) → map blank (map (refreshed pages) ss) ≡ map blank ss
blank_refreshed pages [] = refl
blank_refreshed pages (x ∷ xs) = ap (λ l. blank x ∷ l) (blank_refreshed pages xs)

part_refreshed : (pages : Pages) (gs : List OpenGrant) → map lent_part (map (refresh pages) gs) ≡ map lent_part gs
part_refreshed pages [] = refl
part_refreshed pages (g ∷ gs) =
    ap (λ (ck : List Sheet). record g { checkpoint = ck } ∷ map lent_part (map (refresh pages) gs)) (blank_refreshed pages g.checkpoint)
    ∙ ap (λ l. lent_part g ∷ l) (part_refreshed pages gs)

-- the pages of an image that aren't absent before, and nothing where one is
abbrev spread_over : Pages → Pages → Pages
spread_over [] after = after
spread_over (x ∷ before) [] = []
spread_over (x ∷ before) (y ∷ after) = option_and_then (λ _. y) x ∷ spread_over before after

length-spread : (before after : Pages) → length (spread_over before after) ≡ length after
length-spread [] after = refl
length-spread (x ∷ before) [] = refl
length-spread (x ∷ before) (y ∷ after) = ap suc (length-spread before after)

get-spread : (before after : Pages) → length before ≡ length after → (p : ℕ) → slice_get (spread_over before after) p ≡ unless_absent (slice_get before p) (slice_get after p)
get-spread [] after e p = refl
get-spread (x ∷ before) [] e p = absurd cc
get-spread (None ∷ before) (y ∷ after) e zero = refl
get-spread (Some b ∷ before) (y ∷ after) e zero = refl
get-spread (x ∷ before) (y ∷ after) e (suc p) = get-spread before after (omega (arith, e)) p

module _ (s : State) (k : Kept s) (lib : ℕ) (b : Bundle) (given : GivenTo s lib b) where
  -- a refused bundle can end
  pub refused_ends : (s' : State) × Ends s lib b (refused_image (settled s) b) s'
  refused_ends =
      let mine : List OpenGrant = filter (is_in_bundle lib b) s.open_grants in
      let sheets : List Sheet = checkpoints_of mine in
      let from : (x : Sheet) → In x sheets → (g : OpenGrant) × In g s.open_grants × (is_in_bundle lib b g ≡ true) × In x g.checkpoint =
      λ x i.
      let r = flat_map-In (λ (g : OpenGrant). g.checkpoint) x mine i in
      let f = filter-In (is_in_bundle lib b) r.0 s.open_grants r.1 in
      (r.0, f.0, f.1, r.2) in
      let all : (g : OpenGrant) (x : Sheet) → In g s.open_grants → is_in_bundle lib b g ≡ true → In x g.checkpoint → In x sheets =
      λ g x i own a. In-flat (λ (g : OpenGrant). g.checkpoint) g x mine (In-filter (is_in_bundle lib b) g s.open_grants i own) a in
      let home : Image = with_core_pages s.home (with_pages (uncovered (settled s) b ++ b.pages) (with_pages sheets s.home.core.pages)) in
      let t : State = record { home = home; open_grants = grants_after s lib b; pages_out = out_after s.pages_out (sheet_numbers b.pages); numbers_out = out_after s.numbers_out b.numbers; creds = s.creds; entries = s.entries + 1 } in
      (t, record { settles = ap (with_core_pages s.home) (refused_settles s k lib b given sheets from all); grants = refl; pages = refl; numbers = refl; creds = refl; entries = refl; away = refused_away s k lib b given sheets from all })

  -- an accepted bundle can end
  accepted_ends : is_accepted (settled s) (creds_of s lib) b ≡ true → (s' : State) × Ends s lib b (next (settled s) b) s'
  accepted_ends v =
      let image : Image = next (settled s) b in
      let after : Pages = image.core.pages in
      let before : Pages = with_pages (bundle_sheets b) s.home.core.pages in
      let pages : Pages = spread_over before after in
      let gs : List OpenGrant = map (refresh after) (grants_after s lib b) in
      let long : length before ≡ length after = length-with_pages (bundle_sheets b) s.home.core.pages ∙ sym (next_long s k lib b given v) in
      let spread : IsSpread s b after pages gs = record {
        count = length-spread before after;
        home = get-spread before after long;
        covered = λ g x i a.
            let h = map-In (refresh after) g (grants_after s lib b) i in
            let y = map-In (refreshed after) x h.0.checkpoint (subst (λ (z : OpenGrant). In x z.checkpoint) h.2 a) in
            let f = filter-In (λ g. not (is_in_bundle lib b g)) h.0 s.open_grants h.1 in
            let c = next_there s k lib b given v y.0 (In-flat (λ (z : OpenGrant). z.checkpoint) h.0 y.0 s.open_grants f.0 y.1) in
            let bytes : x.bytes ≡ c.0 = ap (λ (z : Sheet). z.bytes) y.2 ∙ ap bytes_at c.1 in
            ap (λ (z : Sheet). slice_get after z.page) y.2 ∙ c.1 ∙ ap (λ l. Some (Some l)) (sym bytes);
      } in
      let like : map lent_part gs ≡ map lent_part (grants_after s lib b) = part_refreshed after (grants_after s lib b) in
      let t : State = record { home = with_core_pages image pages; open_grants = gs; pages_out = out_after s.pages_out (sheet_numbers b.pages); numbers_out = out_after s.numbers_out b.numbers; creds = s.creds; entries = s.entries + 1 } in
      (t, record { settles = ap (with_core_pages image) (accepted_settles s k lib b given v pages gs like spread); grants = like; pages = refl; numbers = refl; creds = refl; entries = refl; away = accepted_away s b after pages gs spread })

module _ (s : State) (k : Kept s) where
  -- a bundle that was given to its library and is closed is accepted or refused
  closed_possible : (lib : ℕ) (b : Bundle) → GivenTo s lib b → parted_hold s lib b ≡ None → (answer : CtlAnswer) × (s' : State) × Does s (Release lib b) answer s'
  closed_possible lib b given closed =
      elim (cases_Bool (is_accepted (settled s) (creds_of s lib) b)) [
        | inl t ↦ (let r = accepted_ends s k lib b given t in (Accepted, r.0, IsAccepted closed t refl r.1))
        | inr f ↦ (
            let r = refused_ends s k lib b given in
            let t = refused_tells s lib b k given closed f in
            (Refused t.0, r.0, IsRefused closed f t.0 refl t.1 r.1))
      ]

  pub release_possible : (lib : ℕ) (b : Bundle) → GivenTo s lib b → (answer : CtlAnswer) × (s' : State) × Does s (Release lib b) answer s'
  release_possible lib b given = by_parted (parted_hold s lib b) refl
    where
      by_parted : (o : Option ℕ) → parted_hold s lib b ≡ o → (answer : CtlAnswer) × (s' : State) × Does s (Release lib b) answer s'
      by_parted None e = closed_possible lib b given e
      by_parted (Some n) e = (NotClosed n, s, Parted n e refl refl)

  -- each call of what was given has an answer other than want of memory, a settle where it is one
  pub call_possible : (event : Event) → GivenEvent s event → MayEnd s event → (answer : CtlAnswer) × (s' : State) × Does s event answer s'
  call_possible (Grant lib ino kind) given may = (let o = grant_outcome s lib ino kind in (o.answer, o.after, (refl, refl)))
  call_possible (Allot lib pages numbers) given may = (let o = allot_outcome s lib pages numbers in (o.answer, o.after, (refl, refl)))
  call_possible (Back lib ino) given may = (Done, given_back s lib ino, (refl, refl))
  call_possible (Release lib b) given may = release_possible lib b given
  call_possible (Settle lib b) given may = (let r = accepted_ends s k lib b given.0 may.1 in (Settled, r.0, (refl, may.0, may.1, r.1)))
  call_possible (SetMode lib ino mode) given may = (let o = mode_outcome s lib ino mode in (o.answer, o.after, (refl, refl)))
