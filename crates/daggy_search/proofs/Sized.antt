-- Writes change no size of a worklist.
use Rattle.std.proofs.Common.{ℕ, true, set, ◌∙◌}
use Rattle.std.proofs.lemmas.List.{length-set}
use Rattle.daggy_search.specs.Work.{Work, IsSized}

module _ {size : ℕ} {w : Work} (s : IsSized size w) where
  pub sized_entered : (i : ℕ) → IsSized size record w { entered = set w.entered i true }
  sized_entered i =
      record {
        size_is = s.size_is;
        entered_are = length-set w.entered i true ∙ s.entered_are;
        marked_are = s.marked_are;
        nodes_are = s.nodes_are;
        cursors_are = s.cursors_are;
        small = s.small;
      }

  pub sized_marked : (i : ℕ) → IsSized size record w { marked = set w.marked i true }
  sized_marked i =
      record {
        size_is = s.size_is;
        entered_are = s.entered_are;
        marked_are = length-set w.marked i true ∙ s.marked_are;
        nodes_are = s.nodes_are;
        cursors_are = s.cursors_are;
        small = s.small;
      }

  pub sized_put_node : (at n : ℕ) → IsSized size record w { nodes = set w.nodes at n }
  sized_put_node at n =
      record {
        size_is = s.size_is;
        entered_are = s.entered_are;
        marked_are = s.marked_are;
        nodes_are = length-set w.nodes at n ∙ s.nodes_are;
        cursors_are = s.cursors_are;
        small = s.small;
      }

  pub sized_put_cursor : (at n : ℕ) → IsSized size record w { cursors = set w.cursors at n }
  sized_put_cursor at n =
      record {
        size_is = s.size_is;
        entered_are = s.entered_are;
        marked_are = s.marked_are;
        nodes_are = s.nodes_are;
        cursors_are = length-set w.cursors at n ∙ s.cursors_are;
        small = s.small;
      }
