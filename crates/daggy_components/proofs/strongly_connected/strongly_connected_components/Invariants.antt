use Rattle.std.proofs.Common.{◌+◌, ◌-◌, ◌*◌, map}
use Rattle.daggy_base.specs.Graph.{edge_count}
use Rattle.daggy_components.proofs.Progress.{Resting, Walking}
use Rattle.daggy_components.proofs.strongly_connected.strongly_connected_components.Given as goal

abbrev pub invariant-roots : goal.invariant-roots
invariant-roots g l =
    Resting g.Ix.IndexType.greatest record {
      graph = g.S.EdgeSource.graph l.fn.source;
      bound = l.bound;
      looks = g.S.EdgeSource.looks l.fn.source;
    } l.i record {
      graph = g.S.EdgeSource.graph l.source;
      lists = record {
        places = l.places.items;
        nodes = l.nodes.items;
        bases = l.bases.items;
        members = map g.Ix.IndexType.number l.members.items;
        ends = l.ends.items;
        top = l.top;
      };
      cursors = l.cursors.items;
      looks = g.S.EdgeSource.looks l.source;
    }

abbrev pub invariant-steps : goal.invariant-steps
invariant-steps g l =
    Walking g.Ix.IndexType.greatest record {
      graph = g.S.EdgeSource.graph l.fn.source;
      bound = l.bound;
      looks = g.S.EdgeSource.looks l.fn.source;
    } (l.i + 1) record {
      graph = g.S.EdgeSource.graph l.source;
      lists = record {
        places = l.places.items;
        nodes = l.nodes.items;
        bases = l.bases.items;
        members = map g.Ix.IndexType.number l.members.items;
        ends = l.ends.items;
        top = l.top;
      };
      cursors = l.cursors.items;
      looks = g.S.EdgeSource.looks l.source;
    } record {
      groups = l.groups;
      opened = l.opened;
      len = l.len;
      node = g.Ix.IndexType.number l.n;
      edge = g.Ix.IndexType.number l.e;
    }

abbrev pub decreases-steps : goal.decreases-steps
decreases-steps g l =
    2
    * (edge_count (g.S.EdgeSource.graph l.fn.source) + g.S.EdgeSource.looks l.fn.source - g.S.EdgeSource.looks l.source)
    + l.len
