-- What a session shows of a file that it has open, and of one that it reads.
use Rattle.trio_session.proofs.Words.{if◌then◌else◌, ◌∙◌, ◌≡◌, Bool, HoldParts, Kind, LentPage, List, None, Option, SessionSeen, Shown, Some, [], ap, body_in, body_shown, chain_in, dir_pages, held_file, map, open_kind, option_and_then, option_map, option_map_or, option_or, page_at, page_in, read_file, refl, slice_get, slice_get-map, sym, ℕ}
use Rattle.std.specs.Prelude.{is_some, unwrap_or}
use Rattle.trio_session.specs.Deeds.{body_had}
use Rattle.trio_session.specs.Seen.{block_shown, pages_shown}

-- ---- its blocks

abbrev pages_by : SessionSeen → ℕ → Bool → List (List ℕ)
pages_by s dir t = if t then map (page_in s.parcel) (chain_in s dir).blocks else option_map_or dir_pages (read_file s dir) []

pub pages_shown-open : (s : SessionSeen) (dir : ℕ) (kind : Kind) → open_kind s dir ≡ Some kind → pages_shown s dir ≡ map (page_in s.parcel) (chain_in s dir).blocks
pages_shown-open s dir kind o = ap (λ q. pages_by s dir (is_some q)) o

pub pages_shown-read : (s : SessionSeen) (dir : ℕ) → open_kind s dir ≡ None → pages_shown s dir ≡ option_map_or dir_pages (read_file s dir) []
pages_shown-read s dir o = ap (λ q. pages_by s dir (is_some q)) o

abbrev block_by : SessionSeen → ℕ → ℕ → Bool → Option (List ℕ)
block_by s d k t = if t then option_map (page_in s.parcel) (slice_get (chain_in s d).blocks k) else option_and_then (λ (f : Shown). page_at f.blocks k) (read_file s d)

pub block_shown-open : (s : SessionSeen) (d : ℕ) (kind : Kind) (k : ℕ) → open_kind s d ≡ Some kind → block_shown s d k ≡ option_map (page_in s.parcel) (slice_get (chain_in s d).blocks k)
block_shown-open s d kind k o = ap (λ q. block_by s d k (is_some q)) o

pub block_shown-read : (s : SessionSeen) (d k : ℕ) → open_kind s d ≡ None → block_shown s d k ≡ option_and_then (λ (f : Shown). page_at f.blocks k) (read_file s d)
block_shown-read s d k o = ap (λ q. block_by s d k (is_some q)) o

-- one by one they are those
pub block_shown-pages : (s : SessionSeen) (d k : ℕ) → block_shown s d k ≡ slice_get (pages_shown s d) k
block_shown-pages s d k = by (open_kind s d) refl
  where
    lent : (o : Option Shown) → option_and_then (λ (f : Shown). page_at f.blocks k) o ≡ slice_get (option_map_or dir_pages o []) k
    lent None = refl
    lent (Some f) = sym (slice_get-map (λ (p : LentPage). p.page) f.blocks k)

    by : (o : Option Kind) → open_kind s d ≡ o → block_shown s d k ≡ slice_get (pages_shown s d) k
    by (Some kind) e =
        block_shown-open s d kind k e ∙ sym (slice_get-map (page_in s.parcel) (chain_in s d).blocks k) ∙ ap (λ l. slice_get l k) (sym (pages_shown-open s d kind e))
    by None e = block_shown-read s d k e ∙ lent (read_file s d) ∙ ap (λ l. slice_get l k) (sym (pages_shown-read s d e))

-- ---- its body

pub body_shown-open : (s : SessionSeen) (ino : ℕ) (kind : Kind) → open_kind s ino ≡ Some kind → body_shown s ino ≡ Some (body_in s ino)
body_shown-open s ino kind o =
    ap (λ k. option_or (option_map (λ (q : Kind). body_in s ino) k) (option_or (option_map (λ (f : Shown). f.body) (read_file s ino)) (option_map (λ (h : HoldParts). h.body) (held_file s ino)))) o

pub body_had-open : (s : SessionSeen) (ino : ℕ) (kind : Kind) → open_kind s ino ≡ Some kind → body_had s ino ≡ body_in s ino
body_had-open s ino kind o = ap (λ b. unwrap_or b []) (body_shown-open s ino kind o)

pub body_shown-read : (s : SessionSeen) (ino : ℕ) (f : Shown) → open_kind s ino ≡ None → read_file s ino ≡ Some f → body_shown s ino ≡ Some f.body
body_shown-read s ino f none there =
    ap (λ k. option_or (option_map (λ (q : Kind). body_in s ino) k) (option_or (option_map (λ (g : Shown). g.body) (read_file s ino)) (option_map (λ (h : HoldParts). h.body) (held_file s ino)))) none
    ∙ ap (λ r. option_or (option_map (λ (g : Shown). g.body) r) (option_map (λ (h : HoldParts). h.body) (held_file s ino))) there

pub body_had-read : (s : SessionSeen) (ino : ℕ) (f : Shown) → open_kind s ino ≡ None → read_file s ino ≡ Some f → body_had s ino ≡ f.body
body_had-read s ino f none there = ap (λ b. unwrap_or b []) (body_shown-read s ino f none there)
