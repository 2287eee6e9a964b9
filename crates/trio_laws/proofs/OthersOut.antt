-- A step of one library leaves what every other library has out.
use Rattle.trio_laws.proofs.Words.{◌&&◌, ◌++◌, ◌||◌, ◌∙◌, ◌∷◌, ◌≡◌, ◌≢◌, Allot, Back, Bool, Bundle, CtlAnswer, Ends, GivenTo, Grant, GrantFault, GrantKind, Image, In, Kept, LibNo, List, ModeFault, None, OpenGrant, Option, Release, ReleaseEnd, Row, SetMode, Settle, Some, State, WasAllotted, [], allot_outcome, ap, arith, cases_lt, eqb, eqb-true, false, false≢true, filter, filter-map, filter-same, get_or_past, given_back, grant_fault, granted_to, grants_after, inl, inr, is_among, is_among-In, is_hold, is_in_bundle, is_out, is_read, is_some, is_write, is_written, length, length-with_all, lent_part, lib_at, lib_at-others, lib_at-set, mode_fault, moded_to, ne_eqb, not, out_after, out_of, out_with, refl, row_at, sheet_numbers, sym, true, without_checkpoint, ℕ}
use Rattle.std.proofs.Common.{map, append-nil}
use Rattle.std.proofs.lemmas.List.Elements.{filter-append}
use Rattle.trio_state.specs.Allotments.{is_library}
use Rattle.trio_laws.specs.OutLaws.{grants_to, numbers_to, OthersKeepOut}
use Rattle.trio_lists.proofs.Filters.{filter-filter}
use Rattle.trio_laws.proofs.Cases.{after_allot, after_no_grant, after_no_mode}
use Rattle.trio_laws.proofs.Allots.{page_free, number_free}

none_of : (o : Option LibNo) → is_some o ≡ false → o ≡ None
none_of None e = refl
none_of (Some l) e = absurd (false≢true (sym e))

-- what a library has out goes by its grants, pages and numbers
out_of_same : (s s' : State) (lib : ℕ) → grants_to s'.open_grants lib ≡ grants_to s.open_grants lib
    → numbers_to s'.pages_out lib ≡ numbers_to s.pages_out lib
    → numbers_to s'.numbers_out lib ≡ numbers_to s.numbers_out lib → out_of s' lib ≡ out_of s lib
out_of_same s s' lib a b c = search arith

module _ (mine lib : ℕ) (apart : mine ≢ lib) where
  abbrev to : OpenGrant → Bool
  to g = eqb g.lib lib

  other_lib : (n : ℕ) → n ≡ mine → eqb n lib ≡ false
  other_lib n e = ne_eqb n lib (λ t. apart (sym e ∙ t))

  away : (g : OpenGrant) → to g ≡ true → eqb g.lib mine ≡ false
  away g t = ne_eqb g.lib mine (λ e. apart (sym e ∙ eqb-true g.lib lib t))

  -- grants
  grants_to-more : (gs : List OpenGrant) (g : OpenGrant) → g.lib ≡ mine
      → grants_to (gs ++ g ∷ []) lib ≡ grants_to gs lib
  grants_to-more gs g e = search (arith, filter-append, other_lib, append-nil)

  grants_to-filter : (stays : OpenGrant → Bool) (gs : List OpenGrant)
      → ((g : OpenGrant) → eqb g.lib mine ≡ false → stays g ≡ true) → grants_to (filter stays gs) lib ≡ grants_to gs lib
  grants_to-filter stays gs h = ap (map without_checkpoint) (filter-filter to stays gs (λ g i t. h g (away g t)))

  -- the bytes of checkpoints don't count
  grants_to-part : (gs : List OpenGrant) → grants_to (map lent_part gs) lib ≡ grants_to gs lib
  grants_to-part gs = ap (map without_checkpoint) (filter-map lent_part to gs) ∙ bare (filter to gs)
    where
      bare : (gs : List OpenGrant) → map without_checkpoint (map lent_part gs) ≡ map without_checkpoint gs
      bare [] = refl
      bare (g ∷ gs) = ap (λ l. without_checkpoint g ∷ l) (bare gs)

  -- numbers
  numbers_to-same : (outs these : List (Option LibNo)) → length these ≡ length outs
      → ((n : ℕ) → is_library lib (lib_at these n) ≡ is_library lib (lib_at outs n))
      → numbers_to these lib ≡ numbers_to outs lib
  numbers_to-same outs these long same = search (arith, filter-same)

  -- numbers that nobody had go out to another library
  numbers_to-more : (outs : List (Option LibNo)) (ns : List ℕ) → ((n : ℕ) → In n ns → is_out outs n ≡ false)
      → numbers_to (out_with outs mine ns) lib ≡ numbers_to outs lib
  numbers_to-more outs ns free = search (arith, numbers_to-same, length-with_all, cases_lt, lib_at-others, lib_at-set, other_lib, none_of, is_among-In, get_or_past)

  -- numbers that another library had come back
  numbers_to-after : (outs : List (Option LibNo)) (these : List ℕ)
      → ((n : ℕ) → In n these → WasAllotted outs mine n) → numbers_to (out_after outs these) lib ≡ numbers_to outs lib
  numbers_to-after outs these given = search (arith, numbers_to-same, length-with_all, cases_lt, lib_at-others, lib_at-set, is_among-In, other_lib, get_or_past)

module _ (s : State) (k : Kept s) (mine lib : ℕ) (apart : mine ≢ lib) where
  abbrev Same : State → Type 0
  Same x = out_of x lib ≡ out_of s lib

  grant : (ino : ℕ) (kind : GrantKind) (f : Option GrantFault) (o : Option Row)
      → out_of (granted_to s mine ino kind f o).after lib ≡ out_of s lib
  grant ino kind f o = search (arith, after_no_grant, out_of_same, grants_to-more)

  allot : (count many : ℕ) → out_of (allot_outcome s mine count many).after lib ≡ out_of s lib
  allot count many = search (arith, after_allot, out_of_same, numbers_to-more, page_free, number_free)

  back : (ino : ℕ) → out_of (given_back s mine ino) lib ≡ out_of s lib
  back ino =
      out_of_same s (given_back s mine ino) lib
      (grants_to-filter mine lib apart (λ g. not (eqb g.lib mine && eqb g.ino ino && is_read g.kind)) s.open_grants
      (λ g f. ap (λ b. not (b && eqb g.ino ino && is_read g.kind)) f)) refl refl

  ends : (b : Bundle) (image : Image) (s' : State) → GivenTo s mine b → Ends s mine b image s'
      → out_of s' lib ≡ out_of s lib
  ends b image s' given e =
      out_of_same s s' lib
      (sym (grants_to-part mine lib apart s'.open_grants)
      ∙ ap (λ l. grants_to l lib) e.grants
      ∙ grants_to-part mine lib apart (grants_after s mine b)
      ∙ grants_to-filter mine lib apart (λ g. not (is_in_bundle mine b g)) s.open_grants
      (λ g f. ap (λ x. not (x && ((is_write g.kind && is_written b g.ino) ||
      (is_hold g.kind && is_among g.ino b.holds)))) f))
      (ap (λ l. numbers_to l lib) e.pages ∙ numbers_to-after mine lib apart s.pages_out
      (sheet_numbers b.pages) given.pages)
      (ap (λ l. numbers_to l lib) e.numbers
      ∙ numbers_to-after mine lib apart s.numbers_out b.numbers given.numbers)

  release : (b : Bundle) (answer : CtlAnswer) (s' : State) → GivenTo s mine b → ReleaseEnd s mine b answer s'
      → out_of s' lib ≡ out_of s lib
  release b answer s' given h = search (arith, ends)

  set_mode : (ino mode : ℕ) (f : Option ModeFault) → out_of (moded_to s ino mode f).after lib ≡ out_of s lib
  set_mode ino mode (Some f) = after_no_mode Same s f refl refl
  set_mode ino mode None = refl

pub others_keep_out : OthersKeepOut
others_keep_out s event answer s' lib k given (inr none) apart = ap (λ (x : State). out_of x lib) none.2
others_keep_out s (Grant mine ino kind) answer s' lib k given (inl d) apart = ap (λ (x : State). out_of x lib) d.1
    ∙ grant s k mine lib apart ino kind (grant_fault s mine ino kind) (row_at s.home ino)
others_keep_out s (Allot mine count many) answer s' lib k given (inl d) apart = ap (λ (x : State). out_of x lib) d.1
    ∙ allot s k mine lib apart count many
others_keep_out s (Back mine ino) answer s' lib k given (inl d) apart = ap (λ (x : State). out_of x lib) d.1
    ∙ back s k mine lib apart ino
others_keep_out s (Release mine b) answer s' lib k given (inl d) apart =
    release s k mine lib apart b answer s' given d
others_keep_out s (Settle mine b) answer s' lib k given (inl d) apart = ends s k mine lib apart b _ s' given.0 d.3
others_keep_out s (SetMode mine ino mode) answer s' lib k given (inl d) apart = ap (λ (x : State). out_of x lib) d.1
    ∙ set_mode s k mine lib apart ino mode (mode_fault s mine ino mode (row_at s.home ino))
