-- Lists of which one has, place by place, what is made of the other.
use Rattle.trio_ctl.proofs.Words.{◌<◌, ◌↔◌, ◌∙◌, ◌≡◌, Bool, HandedPage, LentPage, List, None, Option, PageNo, Some, ap, block_in, false, get_or, index_in, length, option_map, refl, slice_get, slice_get_read, sym, true, ℕ}
use Rattle.trio_lease.specs.Shown.{no_at, page_at, touched_at}
use Rattle.trio_ctl.specs.inner.Same.{page_seen}

-- ---- a page that was handed in at a place

index_seen : (o : Option LentPage) → page_seen (option_map (λ (p : LentPage). p.no) o) (option_map (λ (p : LentPage). p.page) o) (Some false) ≡ option_map index_in o
index_seen None = refl
index_seen (Some p) = refl

block_seen : (o : Option LentPage) → page_seen (option_map (λ (p : LentPage). p.no) o) (option_map (λ (p : LentPage). p.page) o) (option_map (λ (p : LentPage). p.touched) o) ≡ option_map block_in o
block_seen None = refl
block_seen (Some p) = refl

pub index_at : (ps : List LentPage) (hs : List HandedPage) (i : ℕ) (h : HandedPage) (number : Option PageNo) (bytes : Option (List ℕ)) (b : Bool) → i < length hs → h ≡ get_or hs i h → number ≡ no_at ps i → bytes ≡ page_at ps i → (b ≡ true) ↔ (page_seen number bytes (Some false) ≡ Some h) → (b ≡ true) ↔ (slice_get hs i ≡ option_map index_in (slice_get ps i))
index_at ps hs i h number bytes b lt here is_number is_bytes test =
    let read : slice_get hs i ≡ Some h = slice_get_read hs (length hs) i h refl lt here in
    let seen : page_seen number bytes (Some false) ≡ option_map index_in (slice_get ps i) =
    ap (λ o. page_seen o bytes (Some false)) is_number ∙ ap (λ o. page_seen (no_at ps i) o (Some false)) is_bytes ∙ index_seen (slice_get ps i) in
    (λ on. read ∙ sym (test.0 on) ∙ seen, λ same. test.1 (seen ∙ sym same ∙ read))

pub block_at : (ps : List LentPage) (hs : List HandedPage) (i : ℕ) (h : HandedPage) (number : Option PageNo) (bytes : Option (List ℕ)) (touched : Option Bool) (b : Bool) → i < length hs → h ≡ get_or hs i h → number ≡ no_at ps i → bytes ≡ page_at ps i → touched ≡ touched_at ps i → (b ≡ true) ↔ (page_seen number bytes touched ≡ Some h) → (b ≡ true) ↔ (slice_get hs i ≡ option_map block_in (slice_get ps i))
block_at ps hs i h number bytes touched b lt here is_number is_bytes is_touched test =
    let read : slice_get hs i ≡ Some h = slice_get_read hs (length hs) i h refl lt here in
    let seen : page_seen number bytes touched ≡ option_map block_in (slice_get ps i) =
    ap (λ o. page_seen o bytes touched) is_number ∙ ap (λ o. page_seen (no_at ps i) o touched) is_bytes ∙ ap (λ o. page_seen (no_at ps i) (page_at ps i) o) is_touched ∙ block_seen (slice_get ps i) in
    (λ on. read ∙ sym (test.0 on) ∙ seen, λ same. test.1 (seen ∙ sym same ∙ read))
