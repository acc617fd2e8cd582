mod Functions
