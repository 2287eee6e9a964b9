-- What is known of a state decides what a library can hand in there.
use Rattle.trio_order.proofs.Words.{◌∙◌, ◌∷◌, ◌≡◌, Allot, AreBack, Back, Bundle, Done, Event, GivenEvent, Grant, GrantKind, In, Kept, Known, LibNo, List, Release, SetMode, Settle, Shown, State, Written, [], all_back, ap, given_back, inl, known, known_after, map, refl, step_kept, steps_are_known, subst, sym, ℕ}
use Rattle.trio_rights.specs.Sheets.{sheet_numbers}
use Rattle.trio_lists.proofs.Members.{In-map, map-In}
use Rattle.trio_nodes.specs.declared.grant.GrantKind.TheVariants.{Read, Hold}
use Rattle.trio_state.specs.Given.{GivenTo, HasGrant, HasNoRead, WasAllotted, WasLent}
use Rattle.trio_state.specs.State.{OpenGrant}
use Rattle.trio_laws.specs.OutLaws.{without_checkpoint}

-- two kept states of which the same is known
pub record Alike (s t : State) : Type 0 where
  pub kept : Kept s
  pub kept' : Kept t
  pub same : known s ≡ known t

-- ---- grants

-- the grant in the other state that is the same but for its checkpoint
record Twin (g : OpenGrant) (t : State) : Type 0 where
  grant : OpenGrant
  is_open : In grant t.open_grants
  same : without_checkpoint g ≡ without_checkpoint grant

twin : (s t : State) (g : OpenGrant) → known s ≡ known t → In g s.open_grants → Twin g t
twin s t g same i =
    let there : In (without_checkpoint g) (map without_checkpoint t.open_grants) =
    subst (λ (k : Known). In (without_checkpoint g) k.grants) same (In-map without_checkpoint g s.open_grants i) in
    let m = map-In without_checkpoint (without_checkpoint g) t.open_grants there in
    record { grant = m.0; is_open = m.1; same = m.2 }

has_grant : (s t : State) (lib ino : ℕ) (kind : GrantKind) → known s ≡ known t → HasGrant s lib ino kind → HasGrant t lib ino kind
has_grant s t lib ino kind same h =
    let w = twin s t h.grant same h.is_open in
    record {
      grant = w.grant;
      is_open = w.is_open;
      lib = sym (ap (λ (g : OpenGrant). g.lib) w.same) ∙ h.lib;
      kind = sym (ap (λ (g : OpenGrant). g.kind) w.same) ∙ h.kind;
      ino = sym (ap (λ (g : OpenGrant). g.ino) w.same) ∙ h.ino;
    }

was_lent : (s t : State) (lib : ℕ) (x : Written) → known s ≡ known t → WasLent s lib x → WasLent t lib x
was_lent s t lib x same h =
    let w = twin s t h.grant same h.is_open in
    record {
      grant = w.grant;
      is_open = w.is_open;
      lib = sym (ap (λ (g : OpenGrant). g.lib) w.same) ∙ h.lib;
      kind = sym (ap (λ (g : OpenGrant). g.kind) w.same) ∙ h.kind;
      ino = sym (ap (λ (g : OpenGrant). g.ino) w.same) ∙ h.ino;
      of = sym (ap (λ (g : OpenGrant). g.of) w.same) ∙ h.of;
      index = h.index ∙ ap (λ (g : OpenGrant). sheet_numbers g.index) w.same;
      blocks = h.blocks ∙ ap (λ (g : OpenGrant). sheet_numbers g.blocks) w.same;
    }

has_no_read : (s t : State) (lib : ℕ) → known s ≡ known t → HasNoRead s lib → HasNoRead t lib
has_no_read s t lib same none g i mine read =
    let w = twin t s g (sym same) i in
    none w.grant w.is_open (sym (ap (λ (g : OpenGrant). g.lib) w.same) ∙ mine) (sym (ap (λ (g : OpenGrant). g.kind) w.same) ∙ read)

-- ---- what is handed in

given_to : (s t : State) (lib : ℕ) (b : Bundle) → known s ≡ known t → GivenTo s lib b → GivenTo t lib b
given_to s t lib b same h = record {
  writes = λ w i. was_lent s t lib w same (h.writes w i);
  holds = λ n i. has_grant s t lib n Hold same (h.holds n i);
  pages = λ n i. subst (λ (k : Known). WasAllotted k.pages_out lib n) same (h.pages n i);
  numbers = λ n i. subst (λ (k : Known). WasAllotted k.numbers_out lib n) same (h.numbers n i);
  full = h.full;
  writes_once = h.writes_once;
  holds_once = h.holds_once;
  pages_once = h.pages_once;
  numbers_once = h.numbers_once;
}

pub given_event : (s t : State) (event : Event) → known s ≡ known t → GivenEvent s event → GivenEvent t event
given_event s t (Grant lib ino kind) same given = tt
given_event s t (Allot lib pages numbers) same given = tt
given_event s t (Back lib ino) same given = has_grant s t lib ino Read same given
given_event s t (Release lib b) same given = given_to s t lib b same given
given_event s t (Settle lib b) same given = (given_to s t lib b same given.0, has_no_read s t lib same given.1)
given_event s t (SetMode lib ino mode) same given = tt

-- ---- read leases that are given back

-- one after another, from both states
pub record BothBack (s t : State) (lib : LibNo) (back : List Shown) : Type 0 where
  pub there : AreBack t lib back
  pub alike : Alike (all_back s lib back) (all_back t lib back)

pub back_known : (s : State) (lib ino : ℕ) → Kept s → known (given_back s lib ino) ≡ known_after (known s) (Back lib ino) Done
back_known s lib ino k = steps_are_known s (Back lib ino) Done (given_back s lib ino) k (inl (refl, refl))

pub back_kept : (s : State) (lib ino : ℕ) → Kept s → HasGrant s lib ino Read → Kept (given_back s lib ino)
back_kept s lib ino k has = step_kept s (given_back s lib ino) (Back lib ino) Done k has (inl (refl, refl))

pub both_back : (s t : State) (lib : LibNo) (back : List Shown) → Alike s t → AreBack s lib back → BothBack s t lib back
both_back s t lib [] a b = record { there = tt; alike = a }
both_back s t lib (f ∷ fs) a b =
    let there = has_grant s t lib.0 f.ino Read a.same b.0 in
    let next : Alike (given_back s lib.0 f.ino) (given_back t lib.0 f.ino) = record {
      kept = back_kept s lib.0 f.ino a.kept b.0;
      kept' = back_kept t lib.0 f.ino a.kept' there;
      same = back_known s lib.0 f.ino a.kept ∙ ap (λ (k : Known). known_after k (Back lib.0 f.ino) Done) a.same ∙ sym (back_known t lib.0 f.ino a.kept');
    } in
    let rest = both_back (given_back s lib.0 f.ino) (given_back t lib.0 f.ino) lib fs next b.1 in
    record { there = (there, rest.there); alike = rest.alike }
