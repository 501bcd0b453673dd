-- Pages: what is laid on one, piece by piece.
use Rattle.std.specs.Prelude.{ℕ, ◌≡◌, ◌^◌, ◌<◌, List, length}
use Rattle.numerals.specs.declared.page.Page.{Page}
use Rattle.numerals.specs.Laid.{Put}

-- The page has got the bytes xs behind what was laid before, over the same buffer.
pub record Lays (old : Page) (xs : List ℕ) (new : Page) : Type 0 where
  pub same : new.out.ghost_name ≡ old.out.ghost_name
  pub room : length old.out.now < 2 ^ 64
  pub put : Put old.out.now old.at xs new.at new.out.now
