-- What the grants lent that stay open after a bundle is whole.
use Rattle.trio_laws.proofs.Words.{◌≡◌, Bundle, Ends, Image, In, In-map, LentWhole, List, OpenGrant, State, ap, filter-In, grants_after, is_in_bundle, lent_part, map-In, not, subst, ℕ}
use Rattle.std.proofs.Common.{map}

pub lent_member : (gs hs : List OpenGrant) (g : OpenGrant) → map lent_part gs ≡ map lent_part hs → In g gs → (h : OpenGrant) × In h hs × (lent_part g ≡ lent_part h)
lent_member gs hs g e i =
    let a : In (lent_part g) (map lent_part hs) = subst (λ l. In (lent_part g) l) e (In-map lent_part g gs i) in
    let r = map-In lent_part (lent_part g) hs a in (r.0, r.1, r.2)

pub ends_whole : (s : State) (lib : ℕ) (b : Bundle) (image : Image) (s' : State) → Ends s lib b image s' → LentWhole s → LentWhole s'
ends_whole s lib b image s' e w g x i j =
    let h = lent_member s'.open_grants (grants_after s lib b) g e.grants i in
    let old = filter-In (λ (g : OpenGrant). not (is_in_bundle lib b g)) h.0 s.open_grants h.1 in
    w h.0 x old.0 (subst (λ l. In x l) (ap (λ (y : OpenGrant). y.blocks) h.2) j)
